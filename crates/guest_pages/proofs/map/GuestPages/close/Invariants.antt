use Rattle.std.proofs.Common.{vec_len}
use Rattle.guest_pages.proofs.map.GuestPages.close.Given as goal

abbrev pub decreases-loop-page : goal.decreases-loop-page
decreases-loop-page l = vec_len l.pages
