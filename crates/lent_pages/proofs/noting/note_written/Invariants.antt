use Rattle.guest_pages.specs.Pages.{page_at, shown}
use Rattle.lent_pages.proofs.noting.note_written.Given as goal

abbrev pub ghosts-note_as : goal.ghosts-note_as
ghosts-note_as g a = record { bytes = shown (page_at (g.P.Pages.pages a.before.now.value) a.p) }
