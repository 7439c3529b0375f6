-- The lines of the header.
use Rattle.std.specs.Prelude.{ℕ, Bool, true, false, ◌==◌, ◌++◌, nat_lt, if◌then◌else◌, List, [], ◌∷◌, length, codes, Option, Some, None, option_map, is_some}
use Rattle.std.specs.Str.{bytes_eq}
use Rattle.script.specs.Steps.{◌>>=◌}
use Rattle.script.specs.Numbers.{number_of}
use Rattle.script.specs.Words.{Arguments, Zero, One, Two, Three, Four}
use Rattle.script.specs.declared.name.HeaderName.{HeaderName}
use Rattle.script.specs.declared.name.HeaderName.TheVariants as name
use Rattle.script.specs.declared.header.Fail.{Fail}
use Rattle.script.specs.declared.header.StoreCall.{StoreCall}
use Rattle.script.specs.declared.header.StoreCall.TheVariants.{Read, Write}

-- a guest's file, its pages and shares, and the least pages that it keeps, where they are given
pub record GuestLine : Type 0 where
  pub file : List ℕ
  pub pages : ℕ
  pub shares : ℕ
  pub minimum : Option ℕ

-- what a line of the header says
pub data Part : Type 0 where
  Frames : ℕ → Part
  Slots : ℕ → Part
  Seed : ℕ → Part
  Guest : GuestLine → Part
  Failure : Fail → Part
  Admit : Part
  Profile : ℕ → Part

-- the name of a file: a word that isn't empty
abbrev pub file_of : List ℕ → Option (List ℕ)
file_of text = if length text == 0 then None else Some text

-- a guest without a minimum
unfoldable pub guest_of : List ℕ → List ℕ → List ℕ → Option GuestLine
guest_of file pages shares =
    file_of file
    >>= λ f. number_of pages
    >>= λ p. number_of shares
    >>= λ s. Some (record { file = f; pages = p; shares = s; minimum = None })

-- a guest with a minimum
unfoldable pub guest_with_minimum_of : List ℕ → List ℕ → List ℕ → List ℕ → Option GuestLine
guest_with_minimum_of file pages shares minimum =
    guest_of file pages shares >>= λ line. number_of minimum >>= λ m. Some (record line { minimum = Some m })

-- the kind of calls of the store of which one fails
unfoldable pub call_of : List ℕ → Option StoreCall
call_of text = if bytes_eq (codes "read") text then Some Read else if bytes_eq (codes "write") text then Some Write else None

-- which one fails, counted from 1
unfoldable pub failure_of : List ℕ → List ℕ → Option Fail
failure_of call count =
    call_of call >>= λ c. number_of count >>= λ k. (if nat_lt 0 k then Some (record { call = c; count = k }) else None)

-- a line of the header, by its first word and those behind it
unfoldable pub part_of : HeaderName → Arguments → Option Part
part_of name.Frames (One count) = option_map Frames (number_of count)
part_of name.Slots (One count) = option_map Slots (number_of count)
part_of name.Seed (One seed) = option_map Seed (number_of seed)
part_of name.Guest (Three file pages shares) = option_map Guest (guest_of file pages shares)
part_of name.Guest (Four file pages shares minimum) = option_map Guest (guest_with_minimum_of file pages shares minimum)
part_of name.Fail (Two call count) = option_map Failure (failure_of call count)
part_of name.Admit Zero = Some Admit
part_of name.Profile (One number) = option_map Profile (number_of number)
part_of _ _ = None

-- what the lines of the header have said so far
pub record Draft : Type 0 where
  pub frames : Option ℕ
  pub slots : Option ℕ
  pub seed : Option ℕ
  pub guests : List GuestLine
  pub failure : Option Fail
  pub admit : Bool
  pub profile : Option ℕ

abbrev pub first_draft : Draft
first_draft = record { frames = None; slots = None; seed = None; guests = []; failure = None; admit = false; profile = None }

-- each line stands once, but for those of guests
unfoldable pub with_part : Draft → Part → Option Draft
with_part d (Frames n) = if is_some d.frames then None else Some (record d { frames = Some n })
with_part d (Slots n) = if is_some d.slots then None else Some (record d { slots = Some n })
with_part d (Seed n) = if is_some d.seed then None else Some (record d { seed = Some n })
with_part d (Guest line) = Some (record d { guests = d.guests ++ line ∷ [] })
with_part d (Failure f) = if is_some d.failure then None else Some (record d { failure = Some f })
with_part d Admit = if d.admit then None else Some (record d { admit = true })
with_part d (Profile n) = if is_some d.profile then None else Some (record d { profile = Some n })

pub record Header : Type 0 where
  pub frames : ℕ
  pub slots : ℕ
  pub seed : ℕ
  pub guests : List GuestLine
  pub failure : Option Fail
  pub admit : Bool
  pub profile : Option ℕ

-- the whole header: frames, slots and a seed are there
unfoldable pub header_of : Draft → Option Header
header_of d =
    d.frames
    >>= λ frames. d.slots
    >>= λ slots. d.seed
    >>= λ seed. Some (record { frames = frames; slots = slots; seed = seed; guests = d.guests; failure = d.failure; admit = d.admit; profile = d.profile })
