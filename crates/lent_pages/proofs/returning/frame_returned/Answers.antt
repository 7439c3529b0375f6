use Rattle.std.proofs.Common.{ℕ, [], ◌∷◌, refl, sym, subst}
use Rattle.accounts.specs.Settling.{Moved}
use Rattle.accounts.proofs.Settled.{given_frame_moved}
use Rattle.lent_pages.proofs.Frames.{frame_came}
use Rattle.lent_pages.proofs.returning.frame_returned.Goals as goal

pub settle-requires : goal.settle-requires
settle-requires g c =
    let b = c.requires in
    record {
      moved = subst (λ (n : ℕ). Moved c.args.books.now.id c.args.share.now (g.P.Pages.pages c.args.pages.now) (n ∷ [])) (sym c.strip.ensures)
          (given_frame_moved _ _ b.before b.before _ b.given c.args.frame b.was refl b.pages (sym b.what));
    }

pub returns-clause-frames : goal.returns-clause-frames
returns-clause-frames g c es before given was is what = frame_came before _ given _ c.args.frame es is what c.strip.ensures
