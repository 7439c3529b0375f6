-- The places of a medium's bytes, and the slots that lie there: a slot's first byte is that of place 4096 times its number.
use Rattle.std.specs.Prelude.{ℕ, ◌+◌, ◌*◌, List, map, Option, Some, None, option_map, IsSome, refl}
use Rattle.std.specs.List.{range_with_len}

-- as many bytes as `count`, from a place on
unfoldable pub bytes_from : (ℕ → ℕ) → ℕ → ℕ → List ℕ
bytes_from byte_at start count = map (λ i. byte_at (start + i)) (range_with_len 0 count)

-- the bytes of a slot
abbrev pub page_in : (ℕ → ℕ) → ℕ → List ℕ
page_in byte_at slot = bytes_from byte_at (4096 * slot) 4096

-- the bytes of a slot, where those of the medium are known
abbrev pub slot_in : Option (ℕ → ℕ) → ℕ → Option (List ℕ)
slot_in bytes slot = option_map (λ byte_at. page_in byte_at slot) bytes

-- they are known then
pub slot_known : (bytes : Option (ℕ → ℕ)) (slot : ℕ) → IsSome bytes → IsSome (slot_in bytes slot)
slot_known None slot known = known
slot_known (Some byte_at) slot known = refl
