use Rattle.std.proofs.Common.{◌≡◌, true, take}
use Rattle.std.specs.List.{list_all}
use Rattle.masm_lines.specs.Classes.{class_test}
use Rattle.masm_lines.proofs.scan.is_all.Given as goal

abbrev pub invariant-loop-c : goal.invariant-loop-c
invariant-loop-c l = list_all (class_test l.class) (take l.c-index l.text) ≡ true
