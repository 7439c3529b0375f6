-- Bytes as digits.
use Rattle.std.specs.Prelude.{ℕ, ◌==◌, if◌then◌else◌, List, length, Option, None}
use Rattle.std.specs.Result.{result_ok}
use Rattle.hex.specs.Hex.{decode_of}

-- bytes, one at least, of two hexadecimal digits each
unfoldable pub bytes_of : List ℕ → Option (List ℕ)
bytes_of text = if length text == 0 then None else result_ok (decode_of text)
