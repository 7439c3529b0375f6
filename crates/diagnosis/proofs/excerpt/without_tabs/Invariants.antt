use Rattle.std.proofs.Common.{◌≡◌, take, map}
use Rattle.diagnosis.specs.Excerpts.{without_tab}
use Rattle.diagnosis.proofs.excerpt.without_tabs.Given as goal

abbrev pub invariant-loop-byte : goal.invariant-loop-byte
invariant-loop-byte l = l.text.items ≡ map without_tab (take l.byte-index l.bytes)
