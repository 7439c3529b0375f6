-- What a replay of a log prints.
use Rattle.std.specs.Prelude.{◌≡◌, ℕ, ◌%◌, ◌^◌, None, List}
use Rattle.sha2.specs.Sha256.{sha256}
use Rattle.elf32.specs.declared.image.Image.{Image}
use Rattle.items.specs.declared.entry.Entry.{Entry}
use Rattle.items.specs.Entries.{items_of}
use Rattle.mips_cp0.specs.declared.profile.Profile.{Profile}
use Rattle.machine.specs.Boot.{boot_machine}
use Rattle.machine.specs.Items.{run, AllAccepted}
use Rattle.logfile.specs.Versions.{HasHeaderAs, HasEntriesAs}
use Rattle.commands.specs.declared.order.Replay.{Replay}
use Rattle.dump.specs.Dumps.{dump_text}
use Rattle.dump.specs.Steps.{step_count}
use Rattle.commands.specs.Runs.{IsImageOf}

-- the text of a replay of a log's file, of either version, over an image's file: of the machine of the log's profile that the image boots, after
-- the items that the log has, each of which it accepts; its steps are those of the log
pub record IsReplay (all log : List ℕ) (order : Replay) (text : List ℕ) : Type 0 where
  pub profile : Profile
  pub pages : ℕ
  pub image : Image
  pub entries : List Entry
  pub header : HasHeaderAs log (sha256 all) profile pages
  pub stands : IsImageOf order.format pages all image
  pub has : HasEntriesAs log entries
  pub accepted : AllAccepted (items_of entries) (boot_machine profile image pages)
  pub dump : text ≡ dump_text (run (items_of entries) (boot_machine profile image pages)) (step_count (items_of entries) % 2 ^ 64) None
