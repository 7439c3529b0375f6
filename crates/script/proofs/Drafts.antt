-- A whole header, seen by its slots.
use Rattle.std.proofs.Common.{◌≡◌, ℕ, List, [], ◌∷◌, ◌++◌, true, false, refl, sym, ◌∙◌, ap, Bool, Option, Some, None}
use Rattle.std.specs.Prelude.{option_map, if◌then◌else◌}
use Rattle.script.specs.Steps.{◌>>=◌}
use Rattle.script.specs.Headers.{Draft, Header, GuestLine, header_of}
use Rattle.script.specs.Allowed.{may_be_done}
use Rattle.script.specs.Actions.{Action}
use Rattle.script.specs.Scripts.{Reading, with_action, with_block, with_repeat}
use Rattle.script.specs.declared.header.Fail.{Fail}

-- what is done with the guests and the slots of a header, once it is whole
by_parts : {A : Type 0} (f : List GuestLine → ℕ → Option A) (frames slots seed : Option ℕ) (guests : List GuestLine) (failure : Option Fail) (admit : Bool) (profile : Option ℕ)
    → (header_of (record { frames = frames; slots = slots; seed = seed; guests = guests; failure = failure; admit = admit; profile = profile }) >>= λ h. f h.guests h.slots)
    ≡ (option_map (λ h. h.slots) (header_of (record { frames = frames; slots = slots; seed = seed; guests = guests; failure = failure; admit = admit; profile = profile })) >>= λ s. f guests s)
unfolding header_of
by_parts f None slots seed guests failure admit profile = refl
by_parts f (Some a) None seed guests failure admit profile = refl
by_parts f (Some a) (Some b) None guests failure admit profile = refl
by_parts f (Some a) (Some b) (Some c) guests failure admit profile = refl

pub by_slots : {A : Type 0} (f : List GuestLine → ℕ → Option A) (d : Draft) (r : Option ℕ) → r ≡ option_map (λ (h : Header). h.slots) (header_of d) → (header_of d >>= λ h. f h.guests h.slots) ≡ (r >>= λ s. f d.guests s)
by_slots f d r e = by_parts f d.frames d.slots d.seed d.guests d.failure d.admit d.profile ∙ ap (λ (o : Option ℕ). o >>= λ s. f d.guests s) (sym e)

-- what the lines have said, with one that says what is done
abbrev pub line_more : ℕ → Reading → Action → Reading
line_more number r action = record r { block = record r.block { lines = r.block.lines ++ record { number = number; action = action } ∷ [] } }

-- what is done, behind a whole header
decided : (number : ℕ) (r : Reading) (action : Action) (slots : ℕ) → Some slots ≡ option_map (λ (h : Header). h.slots) (header_of r.header)
    → with_action number r action ≡ (if may_be_done r.header.guests slots action then Some (line_more number r action) else None)
unfolding with_action
decided number r action slots whole = by_slots (λ guests s. if may_be_done guests s action then Some (line_more number r action) else None) r.header (Some slots) whole

pub not_allowed : (number : ℕ) (r : Reading) (action : Action) (slots : ℕ) → Some slots ≡ option_map (λ (h : Header). h.slots) (header_of r.header) → may_be_done r.header.guests slots action ≡ false
    → with_action number r action ≡ None
not_allowed number r action slots whole refused = decided number r action slots whole ∙ ap (λ (b : Bool). if b then Some (line_more number r action) else None) refused

pub allowed : (number : ℕ) (r : Reading) (action : Action) (slots : ℕ) → Some slots ≡ option_map (λ (h : Header). h.slots) (header_of r.header) → may_be_done r.header.guests slots action ≡ true
    → with_action number r action ≡ Some (line_more number r action)
allowed number r action slots whole accepted = decided number r action slots whole ∙ ap (λ (b : Bool). if b then Some (line_more number r action) else None) accepted

-- a `repeat` behind a whole header
pub begun : (r : Reading) (times slots : ℕ) → r.repeats ≡ false → Some slots ≡ option_map (λ (h : Header). h.slots) (header_of r.header)
    → with_repeat r times ≡ Some (with_block r times true)
unfolding with_repeat
begun r times slots outside whole =
    ap (λ (b : Bool). if b then None else (header_of r.header >>= λ header. Some (with_block r times true))) outside
    ∙ by_slots (λ guests s. Some (with_block r times true)) r.header (Some slots) whole
