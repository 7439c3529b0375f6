-- One more item of a guest's log.
use Rattle.std.proofs.Common.{◌≡◌, true, List, [], ◌∷◌, ◌++◌, ℕ, sym, ap, subst, ◌∙◌}
use Rattle.items.specs.declared.item.Item.{Item}
use Rattle.elf32.specs.declared.image.Image.{Image}
use Rattle.mips_cp0.specs.declared.profile.Profile.{Profile}
use Rattle.machine.specs.Agreeing.{GivenAreZeros}
use Rattle.machine.specs.Step.{Machine}
use Rattle.machine.specs.Boot.{boot_machine}
use Rattle.machine.specs.Items.{accepts, after, run, AllAccepted}
use Rattle.machine.proofs.Runs.{run_append, accepted_append}
use Rattle.machine.proofs.GivenPages.{boot_zeros, run_zeros}

-- the view after one more item
pub run_more : (items now : List Item) (i : Item) (boot : Machine) → now ≡ items ++ i ∷ [] → run now boot ≡ after i.what (run items boot)
run_more items now i boot e = ap (λ (xs : List Item). run xs boot) e ∙ run_append items (i ∷ []) boot

pub accepted_more : (items now : List Item) (i : Item) (boot : Machine) → now ≡ items ++ i ∷ [] → accepts i.what (run items boot) ≡ true → AllAccepted items boot → AllAccepted now boot
accepted_more items now i boot e accepted all =
    subst (λ (xs : List Item). AllAccepted xs boot) (sym e) ((accepted_append items (i ∷ []) boot).1 (all, (accepted, tt)))

-- the view after more items
pub run_on : (items now more : List Item) (boot : Machine) → now ≡ items ++ more → run now boot ≡ run more (run items boot)
run_on items now more boot e = ap (λ (xs : List Item). run xs boot) e ∙ run_append items more boot

-- in a view each page that is given is zeros
pub view_zeros : (items : List Item) (profile : Profile) (image : Image) (pages : ℕ) → GivenAreZeros (run items (boot_machine profile image pages)).board
view_zeros items profile image pages = run_zeros items (boot_machine profile image pages) (boot_zeros image pages)
