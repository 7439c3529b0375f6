use Rattle.std.proofs.Common.{◌≡◌, ◌≤◌, replicate, vec_len, vec_capacity}
use Rattle.guest_pages.specs.declared.page.Page.TheVariants.{Zero}
use Rattle.guest_pages.proofs.map.GuestPages.new.Given as goal

abbrev pub invariant-loop-page : goal.invariant-loop-page
invariant-loop-page l = record {
  pages : l.pages.items ≡ replicate l._page Zero;
  length : vec_len l.pages ≡ l._page;
  room : l.count ≤ vec_capacity l.pages;
}
