-- What slots of a medium hold, where its bytes are known.
use Rattle.std.proofs.Common.{ℕ, ◌≡◌, ◌+◌, ◌*◌, ◌<◌, ◌≤◌, List, length, get_or, Option, Some, None, Result, Ok, Err, refl, sym, ap, ◌∙◌, arith}
use Rattle.std.specs.Option.{is_some}
use Rattle.std.specs.Result.{is_ok, OnOk}
use Rattle.swapstore.specs.Places.{page_in, slot_in}
use Rattle.swapstore.specs.Holding.{AreHeld, AllStay, OthersStay}
use Rattle.swapstore.proofs.Pages.{bytes_read, same_bytes, other_slot_stays}

-- an answer that is Ok where another is
pub answered : {A E B F : Type 0} (r : Result A E) (r' : Result B F) (P Q : Type 0) → is_ok r' ≡ is_ok r → (P → Q) → OnOk r P → OnOk r' Q
answered (Ok a) (Ok b) P Q same so p = so p
answered (Ok a) (Err e) P Q same so p = tt
answered (Err e) (Ok b) P Q same so p = absurd (cc)
answered (Err e) (Err f) P Q same so p = tt

-- a page that was read
pub page_read : (old : Option (ℕ → ℕ)) (slot place : ℕ) (bytes : List ℕ) → length bytes ≡ 4096 → place ≡ 4096 * slot
    → ((f : ℕ → ℕ) → old ≡ Some f → (i : ℕ) → i < length bytes → get_or bytes i 0 ≡ f (place + i)) → (f : ℕ → ℕ) → old ≡ Some f → bytes ≡ page_in f slot
page_read old slot place bytes whole there read f is = bytes_read f (4096 * slot) 4096 bytes whole (λ i h. read f is i h ∙ ap (λ p. f (p + i)) there)

pub read_held : (old : Option (ℕ → ℕ)) (slot : ℕ) (bytes : List ℕ)
    → ((f : ℕ → ℕ) → old ≡ Some f → bytes ≡ page_in f slot) → AreHeld (slot_in old slot) bytes
read_held None slot bytes read = λ last is. absurd (cc)
read_held (Some f) slot bytes read = λ last is. read f refl ∙ (let same : page_in f slot ≡ last = cc in same)

-- a page that was written
pub written_held : (new : Option (ℕ → ℕ)) (slot place : ℕ) (bytes : List ℕ) → length bytes ≡ 4096 → place ≡ 4096 * slot
    → ((f : ℕ → ℕ) → new ≡ Some f → (i : ℕ) → i < length bytes → f (place + i) ≡ get_or bytes i 0) → AreHeld (slot_in new slot) bytes
written_held new slot place bytes whole there written =
    read_held new slot bytes (page_read new slot place bytes whole there (λ f is i h. sym (written f is i h)))

-- a slot whose bytes stay
slot_stays : (old new : Option (ℕ → ℕ)) (slot : ℕ) → is_some new ≡ is_some old
    → ((f g : ℕ → ℕ) → old ≡ Some f → new ≡ Some g → page_in g slot ≡ page_in f slot) → slot_in new slot ≡ slot_in old slot
slot_stays None None slot known same = refl
slot_stays None (Some g) slot known same = absurd (cc)
slot_stays (Some f) None slot known same = absurd (cc)
slot_stays (Some f) (Some g) slot known same = ap Some (same f g refl refl)

pub all_stay : (old new : Option (ℕ → ℕ)) → is_some new ≡ is_some old
    → ((f g : ℕ → ℕ) → old ≡ Some f → new ≡ Some g → (any : ℕ) → g any ≡ f any) → AllStay (slot_in old) (slot_in new)
all_stay old new known same = λ slot. slot_stays old new slot known (λ f g o n. same_bytes g f (4096 * slot) 4096 (λ i h. same f g o n (4096 * slot + i)))

pub others_stay : (old new : Option (ℕ → ℕ)) (slot place count : ℕ) → count ≡ 4096 → place ≡ 4096 * slot → is_some new ≡ is_some old
    → ((f g : ℕ → ℕ) → old ≡ Some f → new ≡ Some g → (any : ℕ) → any < place → g any ≡ f any)
    → ((f g : ℕ → ℕ) → old ≡ Some f → new ≡ Some g → (any : ℕ) → place + count ≤ any → g any ≡ f any) → OthersStay slot (slot_in old) (slot_in new)
others_stay old new slot place count whole there known before after =
    λ other apart. slot_stays old new other known
    (λ f g o n. other_slot_stays g f slot other (λ any h. before f g o n any (omega arith)) (λ any h. after f g o n any (omega arith)) apart)
