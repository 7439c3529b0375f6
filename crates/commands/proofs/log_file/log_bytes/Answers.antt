use Rattle.std.proofs.Common.{◌∷◌, [], ◌++◌, Option, sym, ap, ◌∙◌, option_to_list}
use Rattle.std.proofs.lemmas.List.{append-nil}
use Rattle.items.specs.declared.entry.Entry.{Entry}
use Rattle.items.specs.Entries.{items_of}
use Rattle.logfile.specs.Runs.{file_entries}
use Rattle.logfile.proofs.Kept.{all_kept}
use Rattle.commands.proofs.log_file.log_bytes.Goals as goal

pub returns-in_ok-append_as-in-Some : goal.returns-in_ok-append_as-in-Some
returns-in_ok-append_as-in-Some c =
    let entries = c.entries.result.now in
    let all = entries ++ c.in-Some.last ∷ [] in
    let last = ap (λ (run : Option Entry). items_of (entries ++ option_to_list run)) (sym c.in-Some.is ∙ c.last_steps.ensures.run) in
    record {
      entries = file_entries all;
      stands = c.in_ok-append_as-in-Some.ensures c.args.profile c.args.pages c.args.digest.now entries c.in_ok-bytes.ensures;
      same = all_kept all ∙ last ∙ c.entries.ensures.items;
    }

pub returns-in-None : goal.returns-in-None
returns-in-None c =
    let entries = c.entries.result.now in
    let last = ap (λ (run : Option Entry). items_of (entries ++ option_to_list run)) (sym c.in-None.is ∙ c.last_steps.ensures.run) in
    record {
      entries = file_entries entries;
      stands = c.in_ok-bytes.ensures;
      same = all_kept entries ∙ ap items_of (sym (append-nil entries)) ∙ last ∙ c.entries.ensures.items;
    }
