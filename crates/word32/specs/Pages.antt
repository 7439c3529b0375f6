-- Addresses in pages of 4,096 bytes.
use Rattle.std.specs.Prelude.{ℕ, ◌/◌, ◌%◌}

abbrev pub page_number : ℕ → ℕ
page_number address = address / 4096

abbrev pub page_offset : ℕ → ℕ
page_offset address = address % 4096
