-- A step that gave a page to the balloon.
use Rattle.std.proofs.Common.{ℕ, ◌≡◌, ◌<◌, inl, inr, List, length, set, refl, sym, ap, subst, ◌∙◌, arith, Option, Some, None}
use Rattle.std.proofs.lemmas.Bool.{cases_lt}
use Rattle.std.proofs.lemmas.List.{set_past, get_or_past, map-set}
use Rattle.frames.specs.FreeList.{FreeList}
use Rattle.sharetab.specs.Entries.{EntriesAre, HasBytes, entry_at}
use Rattle.guest_pages.specs.declared.page.Page.{Page}
use Rattle.guest_pages.specs.declared.page.Page.TheVariants as page
use Rattle.guest_pages.specs.declared.page.PageKind.TheVariants.{Shared}
use Rattle.guest_pages.specs.declared.page.Returned.{Returned}
use Rattle.guest_pages.specs.declared.page.Returned.TheVariants as returned
use Rattle.guest_pages.specs.Pages.{kind_of, page_at, shown, ticket_of, handed_back}
use Rattle.guest_pages.specs.Outline.{outlined, outline}
use Rattle.guest_pages.specs.Holdings.{frames_held, slots_held, tickets_held, private_pages, swapped_pages}
use Rattle.guest_pages.proofs.Outlines.{outline_at, outline_length, outline_frames, outline_slots, outline_tickets, outline_private, outline_swapped}
use Rattle.page_moves.specs.Moves.{Conserves, Reads, Covered}
use Rattle.page_moves.specs.Returns.{IsOut, GoesBack}
use Rattle.page_moves.proofs.Exchanging.{reads_by_page, same_bytes, ticket_held}
use Rattle.page_moves.proofs.GoingBack.{given_conserves}
use Rattle.guest_bus.specs.Buses.{pages_settled, page_returned}
use Rattle.guest.specs.declared.progress.Pause.{Pause}
use Rattle.guest.specs.declared.progress.Pause.TheVariants as pause
use Rattle.guest.specs.Guests.{Gives, HasPaused}
use Rattle.tenant.specs.Lent.{Lent}

-- ---- pages with one outline hold the same

module _ (ps ps' : List Page) (same : outline ps' ≡ outline ps) where
  pub outline_conserves : (pool book : FreeList) (es : EntriesAre) → Conserves ps pool book es ps' pool book es
  outline_conserves pool book es = record {
    frames = record {
      numbers = λ k. omega (arith, sym (outline_frames k ps') ∙ ap (frames_held k) same ∙ outline_frames k ps);
      out = omega (arith, sym (outline_private ps') ∙ ap private_pages same ∙ outline_private ps);
    };
    slots = record {
      numbers = λ k. omega (arith, sym (outline_slots k ps') ∙ ap (slots_held k) same ∙ outline_slots k ps);
      out = omega (arith, sym (outline_swapped ps') ∙ ap swapped_pages same ∙ outline_swapped ps);
    };
    tickets = record {
      numbers = λ k. omega (arith, sym (outline_tickets k ps') ∙ ap (tickets_held k) same ∙ outline_tickets k ps);
      bytes = same_bytes es;
      places = refl;
    };
  }

  outlined_at : (p : ℕ) → outlined (page_at ps' p) ≡ outlined (page_at ps p)
  outlined_at p = sym (outline_at ps' p) ∙ ap (λ (l : List Page). page_at l p) same ∙ outline_at ps p

  shared_same : (q r : Page) → outlined q ≡ outlined r → kind_of q ≡ Shared → q ≡ r
  shared_same page.Zero r e shared = absurd (cc)
  shared_same page.Given r e shared = absurd (cc)
  shared_same (page.Private frame) r e shared = absurd (cc)
  shared_same (page.Swapped slot digest) r e shared = absurd (cc)
  shared_same (page.Shared share ticket) page.Zero e shared = absurd (cc)
  shared_same (page.Shared share ticket) page.Given e shared = absurd (cc)
  shared_same (page.Shared share ticket) (page.Private frame) e shared = absurd (cc)
  shared_same (page.Shared share ticket) (page.Swapped slot digest) e shared = absurd (cc)
  shared_same (page.Shared share ticket) (page.Shared share' ticket') e shared = e

  pub outline_reads : (es : EntriesAre) → Reads es ps → Reads es ps'
  outline_reads es reads p shared =
      let is : page_at ps' p ≡ page_at ps p = shared_same (page_at ps' p) (page_at ps p) (outlined_at p) shared in
      subst (λ (r : Page). HasBytes (shown r) (entry_at es (ticket_of r))) (sym is) (reads p (sym (ap kind_of is) ∙ shared))

  pub outline_covered : (es : EntriesAre) → Covered es ps → Covered es ps'
  outline_covered es covered k = omega (arith, covered k, sym (outline_tickets k ps') ∙ ap (tickets_held k) same ∙ outline_tickets k ps)

  -- what a page hands back is out where what it handed back before was
  out_same : (pool book : FreeList) (es : EntriesAre) (q r : Page) → outlined q ≡ outlined r → IsOut pool book es (handed_back r) → IsOut pool book es (handed_back q)
  out_same pool book es page.Zero r e out = tt
  out_same pool book es page.Given r e out = tt
  out_same pool book es (page.Private frame) page.Zero e out = absurd (cc)
  out_same pool book es (page.Private frame) page.Given e out = absurd (cc)
  out_same pool book es (page.Private frame) (page.Private frame') e out = out
  out_same pool book es (page.Private frame) (page.Shared share ticket) e out = absurd (cc)
  out_same pool book es (page.Private frame) (page.Swapped slot digest) e out = absurd (cc)
  out_same pool book es (page.Shared share ticket) r e out = subst (λ (x : Page). IsOut pool book es (handed_back x)) (sym (shared_same (page.Shared share ticket) r e refl)) out
  out_same pool book es (page.Swapped slot digest) page.Zero e out = absurd (cc)
  out_same pool book es (page.Swapped slot digest) page.Given e out = absurd (cc)
  out_same pool book es (page.Swapped slot digest) (page.Private frame) e out = absurd (cc)
  out_same pool book es (page.Swapped slot digest) (page.Shared share ticket) e out = absurd (cc)
  out_same pool book es (page.Swapped slot digest) (page.Swapped slot' digest') e out = subst (λ (x : Page). IsOut pool book es (handed_back x)) (sym e) out

  pub outline_out : (pool book : FreeList) (es : EntriesAre) (p : ℕ) → IsOut pool book es (handed_back (page_at ps p)) → IsOut pool book es (handed_back (page_at ps' p))
  outline_out pool book es p out = out_same pool book es (page_at ps' p) (page_at ps p) (outlined_at p) out

-- ---- the page that the last step of a run gave

settled_outline : (given : Option ℕ) (ps ps' : List Page) → outline ps' ≡ outline ps → outline (pages_settled given ps') ≡ outline (pages_settled given ps)
settled_outline None ps ps' same = same
settled_outline (Some p) ps ps' same =
    map-set outlined ps' p page.Given ∙ ap (λ (l : List Page). set l p page.Given) same ∙ sym (map-set outlined ps p page.Given)

pub paused_outline : (given other : Option ℕ) (old new : List Page) (o : Option Pause) → given ≡ other → HasPaused given old o new → outline new ≡ outline (pages_settled other old)
paused_outline given other old new None e paused =
    paused.1 ∙ ap (λ (g : Option ℕ). outline (pages_settled g old)) (sym paused.0 ∙ e)
paused_outline given other old new (Some (pause.Need page why)) e paused =
    paused.1 ∙ ap (λ (g : Option ℕ). outline (pages_settled g old)) (sym paused.0 ∙ e)
paused_outline given other old new (Some (pause.Gave returned)) e paused =
    ap outline paused.1.pages ∙ settled_outline given old paused.1.before paused.1.same ∙ ap (λ (g : Option ℕ). outline (pages_settled g old)) e

-- ---- one move after another

pub then_moves : (ps mid ps' : List Page) (pool pool1 pool2 book book1 book2 : FreeList) (es es' : EntriesAre) → Conserves ps pool book es mid pool1 book1 es
    → Conserves mid pool1 book1 es ps' pool2 book2 es' → Conserves ps pool book es ps' pool2 book2 es'
then_moves ps mid ps' pool pool1 pool2 book book1 book2 es es' a b = record {
  frames = record { numbers = λ k. omega (arith, a.frames.numbers k, b.frames.numbers k); out = omega (arith, a.frames.out, b.frames.out) };
  slots = record { numbers = λ k. omega (arith, a.slots.numbers k, b.slots.numbers k); out = omega (arith, a.slots.out, b.slots.out) };
  tickets = record { numbers = λ k. omega (arith, a.tickets.numbers k, b.tickets.numbers k); bytes = b.tickets.bytes; places = b.tickets.places };
}

nothing_moves : (ps : List Page) (pool book pool' book' : FreeList) (es es' : EntriesAre) → GoesBack returned.Nothing pool book es pool' book' es' → Conserves ps pool book es ps pool' book' es'
nothing_moves ps pool book pool' book' es es' g = record {
  frames = record { numbers = λ k. omega (arith, g.frames k); out = omega (arith, g.frames_out) };
  slots = record { numbers = λ k. omega (arith, g.free_slots k); out = omega (arith, g.slots_out) };
  tickets = record { numbers = λ k. omega (arith, g.tickets k); bytes = g.bytes; places = g.places };
}

-- a page is given, and what it handed back has gone back
settled_moves : (given : Option ℕ) (ps ps' : List Page) (pool book pool' book' : FreeList) (es es' : EntriesAre) → ps' ≡ pages_settled given ps
    → GoesBack (page_returned given ps) pool book es pool' book' es' → Conserves ps pool book es ps' pool' book' es'
settled_moves None ps ps' pool book pool' book' es es' is g =
    subst (λ (l : List Page). Conserves ps pool book es l pool' book' es') (sym is) (nothing_moves ps pool book pool' book' es es' g)
settled_moves (Some p) ps ps' pool book pool' book' es es' is g =
    elim (cases_lt p (length ps)) [
      | inl there ↦ given_conserves ps ps' p pool book es pool' book' es' there is g
      | inr past ↦
          let none : handed_back (page_at ps p) ≡ returned.Nothing = ap handed_back (get_or_past ps p page.Zero past) in
          subst (λ (l : List Page). Conserves ps pool book es l pool' book' es') (sym (is ∙ set_past ps p page.Given past))
          (nothing_moves ps pool book pool' book' es es' (subst (λ (r : Returned). GoesBack r pool book es pool' book' es') none g))
    ]

still_reads : (ps : List Page) (pool book pool' book' : FreeList) (es es' : EntriesAre) → GoesBack returned.Nothing pool book es pool' book' es' → Covered es ps → Reads es ps → Reads es' ps
still_reads ps pool book pool' book' es es' g covered reads p shared =
    let t = ticket_of (page_at ps p) in
    g.bytes t (shown (page_at ps p)) (omega (arith, ticket_held ps p shared, covered t, g.tickets t)) (reads p shared)

settled_reads : (given : Option ℕ) (ps ps' : List Page) (pool book pool' book' : FreeList) (es es' : EntriesAre) → ps' ≡ pages_settled given ps
    → GoesBack (page_returned given ps) pool book es pool' book' es' → Covered es ps → Reads es ps → Reads es' ps'
settled_reads None ps ps' pool book pool' book' es es' is g covered reads =
    subst (Reads es') (sym is) (still_reads ps pool book pool' book' es es' g covered reads)
settled_reads (Some p) ps ps' pool book pool' book' es es' is g covered reads =
    elim (cases_lt p (length ps)) [
      | inl there ↦
          reads_by_page es es' ps ps' p page.Given there is (λ e. absurd (cc)) (given_conserves ps ps' p pool book es pool' book' es' there is g).tickets covered reads
      | inr past ↦
          let none : handed_back (page_at ps p) ≡ returned.Nothing = ap handed_back (get_or_past ps p page.Zero past) in
          subst (Reads es') (sym (is ∙ set_past ps p page.Given past))
          (still_reads ps pool book pool' book' es es' (subst (λ (r : Returned). GoesBack r pool book es pool' book' es') none g) covered reads)
    ]

settled_out : (given : Option ℕ) (ps : List Page) (pool book : FreeList) (es : EntriesAre) → ((p : ℕ) → p < length ps → IsOut pool book es (handed_back (page_at ps p)))
    → IsOut pool book es (page_returned given ps)
settled_out None ps pool book es out = tt
settled_out (Some p) ps pool book es out =
    elim (cases_lt p (length ps)) [
      | inl there ↦ out p there
      | inr past ↦ subst (λ (q : Page). IsOut pool book es (handed_back q)) (sym (get_or_past ps p page.Zero past)) tt
    ]

-- ---- what a step handed back

module _ (given : Option ℕ) (old new : List Page) (pool book : FreeList) (es : EntriesAre) (slots : ℕ) (lent : Lent slots old pool book es) where
  pub returned_out : (what : Returned) → Gives given old what new → IsOut pool book es what
  returned_out what g =
      subst (IsOut pool book es) (sym g.what) (settled_out given g.before pool book es (λ p there.
      outline_out old g.before g.same pool book es p (lent.page_out p (omega (arith, there, sym (outline_length g.before) ∙ ap length g.same ∙ outline_length old)))))

  pub given_moves : (what : Returned) (pool' book' : FreeList) (es' : EntriesAre) → Gives given old what new → GoesBack what pool book es pool' book' es'
      → Conserves old pool book es new pool' book' es'
  given_moves what pool' book' es' g back =
      then_moves old g.before new pool pool pool' book book book' es es' (outline_conserves old g.before g.same pool book es)
      (settled_moves given g.before new pool book pool' book' es es' g.pages (subst (λ (r : Returned). GoesBack r pool book es pool' book' es') g.what back))

  pub given_reads : (what : Returned) (pool' book' : FreeList) (es' : EntriesAre) → Gives given old what new → GoesBack what pool book es pool' book' es'
      → Reads es old → Reads es' new
  given_reads what pool' book' es' g back reads =
      settled_reads given g.before new pool book pool' book' es es' g.pages (subst (λ (r : Returned). GoesBack r pool book es pool' book' es') g.what back)
      (outline_covered old g.before g.same es lent.covered) (outline_reads old g.before g.same es reads)
