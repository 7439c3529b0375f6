use Rattle.std.proofs.Common.{ℕ, ◌≡◌, ◌∙◌, All, ap, map, subst, sym}
use Rattle.script.specs.Views.{block_view}
use Rattle.simulation.specs.Acts.{IsBlockFor}
use Rattle.mips_cp0.specs.declared.profile.Profile.{Profile}
use Rattle.booting.specs.declared.asked.NewGuest.{NewGuest}
use Rattle.commands.specs.Sims.{IsProfileOf, line_numbers}
use Rattle.commands.proofs.Simulating.{same_count}
use Rattle.commands.proofs.sim.loaded.Goals as goal

pub returns-clause-can : goal.returns-clause-can
returns-clause-can g c =
    let script = c.in_ok-header.field-0 in
    let numbers = c.in_ok-loaded.ensures.guests ∙ ap (map line_numbers) c.deref-2.ensures.value in
    subst (λ (n : ℕ). All (IsBlockFor n script.header.slots) (map block_view script.blocks.items)) (sym (same_count c.in_ok-loaded.loaded.guests.items script.header.guests.items numbers)) c.in_ok-header.ensures.can

pub returns-clause-guests : goal.returns-clause-guests
returns-clause-guests g c = c.in_ok-loaded.ensures.guests ∙ ap (map line_numbers) c.deref-2.ensures.value

pub returns-clause-profile : goal.returns-clause-profile
returns-clause-profile g c = subst (IsProfileOf c.in_ok-header.field-0.header.profile) (sym c.in_ok-loaded.ensures.profile) c.in_ok-profile.ensures.said

pub returns-clause-profiles : goal.returns-clause-profiles
returns-clause-profiles g c =
    subst (λ (p : Profile). All (λ (it : NewGuest). it.profile ≡ p) c.in_ok-loaded.loaded.guests.items) (sym c.in_ok-loaded.ensures.profile) c.in_ok-loaded.ensures.profiles
