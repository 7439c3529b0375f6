use Rattle.std.proofs.Common.{◌≡◌, ◌∙◌}
use Rattle.sharetab.specs.declared.guest_page.GuestPage.{GuestPage}
use Rattle.sharetab.proofs.Keys.{page_apart, same_page}
use Rattle.sharetab.proofs.page_map.PageMap.put.Goals as goal

pub returns-clause-others : goal.returns-clause-others
returns-clause-others c = λ other apart.
    let key : GuestPage = record { guest = c.number.result; page = c.number-2.result } in
    let guest = c.number.ensures in
    let page = c.number-2.ensures.value in
    let same_guest : key.guest ≡ c.args.page.now.guest = cc in
    let same_number : key.page ≡ c.args.page.now.page = cc in
    let is : key ≡ c.args.page.now = same_page key c.args.page.now same_guest same_number in
    let stays = c.in_ok-insert.ensures.updates.2 (other.guest, other.page) (page_apart key other (λ same. apart (same ∙ is))) in
    let view = c.self.view_is in
    cc
