-- The line of an input.
use Rattle.std.specs.Prelude.{ℕ, ◌+◌, ◌*◌, ◌%◌, ◌^◌, Bool, if◌then◌else◌, is_some, List, [], ◌∷◌, ◌++◌, codes, decimal, flat_map, take, Option, Some, None}
use Rattle.std.specs.Borrow.{Bor}
use Rattle.sha2.specs.Sha256.{sha256}
use Rattle.dump.specs.Dumps.{digits_of, output_digits}
use Rattle.guest_log.specs.declared.stop.Stop.{Stop}
use Rattle.guest_log.specs.Stops.{stop_number}
use Rattle.masm.specs.Disassembly.{hex_word}
use Rattle.runs.specs.Coverage.{covered}
use Rattle.runs.specs.Endings.{IsFirst}
use Rattle.runs.specs.Runs.{after_run, fed, IsCount}
use Rattle.runs.specs.declared.ending.Ending.{Ending}
use Rattle.runs.specs.declared.ending.Ending.TheVariants.{Loop, Exception, Address}
use Rattle.runs.specs.declared.running.Ran.{Ran}
use Rattle.fuzz_command.specs.declared.order.Shown.{Shown}
use Rattle.fuzz_command.specs.declared.order.Shown.TheVariants.{Digest, Digits}
use Rattle.fuzz_command.specs.Settings.{Setting, coverage_of}

-- an input that was run, by its name, and how its run went
pub record Trial : Type 0 where
  pub name : List ℕ
  pub input : List ℕ
  pub ran : Ran

-- its run was one of the machine where it is ready, after this input alone: so far it went, and no farther than to the first state that it was
-- to end at
pub record IsTrial (s : Setting) (t : Trial) : Type 0 where
  pub count : IsCount t.input s.steps t.ran
  pub first : IsFirst s.until (fed (take t.ran.taken t.input) s.home) t.ran

-- what the console had put out when the run was over
abbrev pub output_after : Setting → Trial → List ℕ
output_after s t = (after_run t.ran t.input s.home).board.devices.console.output

-- the guest stopped before its last step
abbrev pub has_stopped : Trial → Bool
has_stopped t = is_some t.ran.stop

-- why a run that didn't stop ended
abbrev pub ending_text : Option Ending → List ℕ
ending_text None = codes "steps"
ending_text (Some (Loop pc)) = codes "loop " ++ hex_word pc
ending_text (Some (Exception code epc)) = codes "exception " ++ decimal code ++ codes " " ++ hex_word epc
ending_text (Some (Address pc)) = codes "address " ++ hex_word pc

-- why a run ended
abbrev pub end_text : Option Stop → Option Ending → List ℕ
end_text None ending = ending_text ending
end_text (Some stop) ending = codes "stop " ++ decimal (stop_number stop)

-- the output as its SHA-256 digest, or the output itself, a dash where there is none
abbrev pub shown_text : Shown → List ℕ → List ℕ
shown_text Digest output = digits_of (sha256 output)
shown_text Digits output = output_digits output

-- the words of memory that PC led to in a run, each once, in the order in which it did so first
abbrev pub reached_in : Setting → Trial → List ℕ
reached_in s t = (covered t.ran.steps (fed (take t.ran.taken t.input) s.home) (coverage_of s)).reached

-- the address of a word of memory in kseg0, where it is the same whatever the TLB holds
abbrev pub word_address : ℕ → ℕ
word_address word = (2 ^ 31 + 4 * word) % 2 ^ 32

abbrev pub address_text : ℕ → List ℕ
address_text word = codes " " ++ hex_word (word_address word)

-- the words that were reached, by their addresses, a dash where there is none
abbrev pub words_text : List ℕ → List ℕ
words_text [] = codes " -"
words_text (word ∷ words) = flat_map address_text (word ∷ words)

-- what a borrow of words has, where there is one
abbrev pub words_of : Option (Bor (List ℕ)) → Option (List ℕ)
words_of None = None
words_of (Some words) = Some words.now

-- nothing where they are not shown
abbrev pub reached_text : Option (List ℕ) → List ℕ
reached_text None = []
reached_text (Some words) = codes " reached" ++ words_text words

-- the line of a run of this name with this output, and with the words that were reached where they are shown
abbrev pub run_text : Shown → List ℕ → Ran → List ℕ → Option (List ℕ) → List ℕ
run_text shown name ran output reached =
    name ++ codes " steps " ++ decimal ran.steps ++ codes " " ++ end_text ran.stop ran.ending ++ codes " out " ++ shown_text shown output
    ++ reached_text reached ++ codes "\n"

abbrev pub line_text : Setting → Trial → List ℕ
line_text s t = run_text s.shown t.name t.ran (output_after s t) (if s.reached then Some (reached_in s t) else None)
