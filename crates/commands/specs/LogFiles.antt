-- Files of logs.
use Rattle.std.specs.Prelude.{◌≡◌, ℕ, List}
use Rattle.items.specs.declared.entry.Entry.{Entry}
use Rattle.items.specs.declared.item.Item.{Item}
use Rattle.items.specs.Entries.{items_of}
use Rattle.mips_cp0.specs.declared.profile.Profile.{Profile}
use Rattle.logfile.specs.Versions.{StandsForAs}

-- a file of version 2 stands for a log: it names the machine's profile, its pages and the image's digest, and its entries have just the log's
-- items, in order
pub record IsLogFile (file : List ℕ) (profile : Profile) (pages : ℕ) (digest : List ℕ) (items : List Item) : Type 0 where
  pub entries : List Entry
  pub stands : StandsForAs file profile pages digest entries
  pub same : items_of entries ≡ items
