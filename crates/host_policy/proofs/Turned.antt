-- What a turn leaves of the policy's seat of a guest.
use Rattle.std.proofs.Common.{◌≡◌, ℕ, ◌*◌, ◌<◌, ◌≤◌, true, List, Option, IfSome, get_or, subst, refl, inl, inr}
use Rattle.cell.specs.declared.cell.Front.{Front}
use Rattle.cell.specs.declared.cell.Cell.{Cell}
use Rattle.cell.specs.declared.seat.Seat.{Seat}
use Rattle.cell.specs.Sitting.{Lasts, IsTrusted}
use Rattle.reclaim.specs.declared.turn.Action.{Action}
use Rattle.host_policy.specs.declared.aiming.Aim.{Aim}
use Rattle.host_policy.specs.declared.aiming.Aim.TheVariants.{Kept, Set, LeftOut}
use Rattle.host_policy.specs.Turns.{IsPolicySeat, IsAimed, IsTurned, is_used}

-- what has become of the balloon targets of the first so many guests
abbrev pub AimedBelow : {S : Type 0} → List (Cell S) → List Action → List Seat → List Aim → List Seat → ℕ → Type 0
AimedBelow {S = S} cells actions seats aims seats' n = (k : ℕ) (c : Cell S) (a : Action) (s s' : Seat) (m : Aim) → k < n →
    IsAimed (get_or cells k c).front (get_or actions k a).balloon (get_or seats k s) (get_or aims k m) (get_or seats' k s')

-- what a turn leaves of the policy's seats of the first so many guests
abbrev pub TurnedBelow : {S : Type 0} → (S → Type 0) → List (Cell S) → List Seat → List Seat → ℕ → Type 0
TurnedBelow {S = S} is_true cells seats seats' n = (k : ℕ) (c : Cell S) (s s' : Seat) → k < n →
    IsTurned is_true (get_or cells k c).front (get_or seats k s) (get_or seats' k s')

-- a seat that was used has found that the truth holds, where the store is true to digests
abbrev pub HeldWithStore : {S : Type 0} → (S → Type 0) → Front S → Aim → Seat → Type 0
HeldWithStore is_true front aim seat' = is_used aim ≡ true → IsTrusted is_true front → seat'.witness.held ≡ true

pub turned : {S : Type 0} (is_true : S → Type 0) (front : Front S) (asked : Option ℕ) (seat : Seat) (aim : Aim) (seat' : Seat) → IfSome asked (λ (pages : ℕ). 4 * pages ≤ 3 * front.pages)
    → IsPolicySeat front seat' → Lasts seat seat' → HeldWithStore is_true front aim seat' → IsAimed front asked seat aim seat' → IsTurned is_true front seat seat'
turned is_true front asked seat Kept seat' most its lasts held aimed = record { its = its; lasts = lasts; asked = inl aimed; lasts_with_store = inl aimed }
turned is_true front asked seat (Set pages) seat' most its lasts held aimed = record {
  its = its;
  lasts = lasts;
  asked = inr (inr (record { target = pages; most = subst (λ (o : Option ℕ). IfSome o (λ (n : ℕ). 4 * n ≤ 3 * front.pages)) aimed.0 most; happened = aimed.1 }));
  lasts_with_store = inr (held refl);
}
turned is_true front asked seat (LeftOut stop) seat' most its lasts held aimed = record { its = its; lasts = lasts; asked = inr (inl aimed.1); lasts_with_store = inr (held refl) }

-- the same of a cell, an action and a seat that are read elsewhere
pub aimed_at : {S : Type 0} (cell cell' : Cell S) (a a' : Action) (seat seat' new : Seat) (aim : Aim) → cell ≡ cell' → a ≡ a' → seat ≡ seat' → IsAimed cell.front a.balloon seat aim new → IsAimed cell'.front a'.balloon seat' aim new
aimed_at {S = S} cell cell' a a' seat seat' new aim same_cell same_action same_seat aimed =
    subst (λ (x : Cell S). IsAimed x.front a'.balloon seat' aim new) same_cell
    (subst (λ (x : Action). IsAimed cell.front x.balloon seat' aim new) same_action (subst (λ (x : Seat). IsAimed cell.front a.balloon x aim new) same_seat aimed))

pub turned_at : {S : Type 0} (is_true : S → Type 0) (cell cell' : Cell S) (a' : Action) (seat seat' new : Seat) (aim : Aim) → cell ≡ cell' → seat ≡ seat'
    → IfSome a'.balloon (λ (pages : ℕ). 4 * pages ≤ 3 * cell'.front.pages)
    → IsPolicySeat cell.front new → Lasts seat new → HeldWithStore is_true cell.front aim new → IsAimed cell'.front a'.balloon seat' aim new → IsTurned is_true cell'.front seat' new
turned_at {S = S} is_true cell cell' a' seat seat' new aim same_cell same_seat most its lasts held aimed =
    turned is_true cell'.front a'.balloon seat' aim new most (subst (λ (x : Cell S). IsPolicySeat x.front new) same_cell its) (subst (λ (x : Seat). Lasts x new) same_seat lasts)
    (subst (λ (x : Cell S). HeldWithStore is_true x.front aim new) same_cell held) aimed
