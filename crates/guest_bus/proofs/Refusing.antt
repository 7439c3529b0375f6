-- Why a write is not made, and what is kept tells which pages are lacking.
use Rattle.std.proofs.Common.{ℕ, ◌≡◌, List, ap, refl}
use Rattle.mips_tlb.specs.declared.kind.Kind.{Kind}
use Rattle.mips_step.specs.declared.debug.Unreached.{Unreached}
use Rattle.mips_step.specs.declared.debug.Unreached.TheVariants as unreached
use Rattle.guest_pages.specs.declared.page.Page.{Page}
use Rattle.guest_pages.specs.Outline.{outline}
use Rattle.guest_pages.proofs.Outlines.{outline_kind}
use Rattle.guest_bus.specs.declared.input.InputError.TheVariants.{Away}
use Rattle.guest_bus.specs.Lacking.{lack_of, lacks_in}
use Rattle.guest_bus.specs.Writes.{write_error}

pub lacks_kept : (pages : List Page) (page : ℕ) (kind : Kind) → lacks_in (outline pages) page kind ≡ lacks_in pages page kind
lacks_kept pages page kind = ap (λ k. lack_of k kind) (outline_kind pages page)

pub away_since : (why : Unreached) (page : ℕ) → write_error why ≡ Away page → why ≡ unreached.Away page
away_since unreached.NoPlace page e = absurd (cc)
away_since (unreached.Away other) page e = cc
