use Rattle.std.proofs.Common.{ℕ, true, Option, ◌≡◌, ◌%◌, ◌<◌, map, length, sym, ap, subst, ◌∙◌, arith}
use Rattle.world.proofs.All.{EvictError, FreeList, IsEligible, IsNextResident, TenantIs, WhyStays, evicted_spares, fewer, is_resident, kind_at, least_at, length-map, may_leave, next_u32, none_free, one_more, only_pages, pages_in, spared_of, stat_of, victim_of}
use Rattle.victims.proofs.Searching.{leaves_resident}
use Rattle.world.proofs.world.World.evict_sparing.Goals as goal

pub drawn_page-p-requires : goal.drawn_page-p-requires
drawn_page-p-requires g c =
    let ts = c.args.self.now.tenants in
    let all : c.deref.result.now ≡ map stat_of ts = c.deref.ensures.value ∙ c.in-Ok.ensures ∙ ap (map stat_of) c.tenants.ensures in
    let inside : c.in-Some.g < length ts = omega (arith, c.in-Some.ensures.within, ap length all, length-map ts stat_of) in
    let least = (c.victim.ensures.least c.in-Some.g).0 c.in-Some.is in
    let eligible : IsEligible (stat_of c.guest.result.now) = least_at c.args.tax.percent ts c.deref.result.now c.in-Some.g c.guest.result.now all inside (c.guest.ensures c.guest.result.now) least in
    omega (arith, eligible)

pub returns-in-Ok-evict_of-clause-moves : goal.returns-in-Ok-evict_of-clause-moves
returns-in-Ok-evict_of-clause-moves g c =
    let ts = c.args.self.now.tenants in
    let all : c.deref.result.now ≡ map stat_of ts = c.deref.ensures.value ∙ c.in-Ok.ensures ∙ ap (map stat_of) c.tenants.ensures in
    let inside : c.in-Some.g < length ts = omega (arith, c.in-Some.ensures.within, ap length all, length-map ts stat_of) in
    only_pages c.in-Some.g ts c.evict_of.new.self.tenants inside c.evict_of.ensures.moves

pub returns-in-Ok-evict_of-clause-policy : goal.returns-in-Ok-evict_of-clause-policy
returns-in-Ok-evict_of-clause-policy g c =
    let ts = c.args.self.now.tenants in
    let all : c.deref.result.now ≡ map stat_of ts = c.deref.ensures.value ∙ c.in-Ok.ensures ∙ ap (map stat_of) c.tenants.ensures in
    let inside : c.in-Some.g < length ts = omega (arith, c.in-Some.ensures.within, ap length all, length-map ts stat_of) in
    let word = (next_u32 (g.R.Rng.stream c.args.rng.now)).0 in
    record {
      g = c.in-Some.g;
      p = c.drawn_page-p.result;
      victim = ap (victim_of c.args.tax.percent) (sym all) ∙ sym c.victim.ensures.value ∙ c.in-Some.is;
      page = λ t.
          subst (λ (u : TenantIs). IsNextResident (spared_of c.args.spared.now c.in-Some.g) (pages_in u) (word % length (pages_in u)) c.drawn_page-p.result) (c.guest.ensures t)
          (subst (λ (spared : Option (ℕ × ℕ)). IsNextResident spared (pages_in c.guest.result.now) (word % length (pages_in c.guest.result.now)) c.drawn_page-p.result) c.spared_of.ensures c.drawn_page-p.ensures.page);
      evicted = c.in-Ok-evict_of.ensures.page;
      others = c.evict_of.ensures.moves;
    }

pub returns-in-Ok-evict_of-clause-fewer : goal.returns-in-Ok-evict_of-clause-fewer
returns-in-Ok-evict_of-clause-fewer g c =
    let ts = c.args.self.now.tenants in
    let all : c.deref.result.now ≡ map stat_of ts = c.deref.ensures.value ∙ c.in-Ok.ensures ∙ ap (map stat_of) c.tenants.ensures in
    let inside : c.in-Some.g < length ts = omega (arith, c.in-Some.ensures.within, ap length all, length-map ts stat_of) in
    fewer c.in-Some.g c.drawn_page-p.result ts c.evict_of.new.self.tenants c.args.self.now.slots inside c.evict_of.ensures.moves
    (λ t. subst (λ (u : TenantIs). c.drawn_page-p.result < length (pages_in u)) (c.guest.ensures t) c.drawn_page-p.ensures.page.there) c.in-Ok-evict_of.ensures.page

pub returns-in-Err-NoSwap-clause-err : goal.returns-in-Err-NoSwap-clause-err
returns-in-Err-NoSwap-clause-err g c =
    let old = c.args.self.now in
    let new = c.evict_of.new.self in (
      ap (λ (l : FreeList). l.free) c.in-Err-NoSwap.ensures.pool_unchanged ∙ c.requires,
      none_free old.slots new.slots (subst (λ (e : EvictError). WhyStays old.slots (g.S.SwapStore.failed new.store ≡ one_more (g.S.SwapStore.failed old.store)) e) c.in-Err-NoSwap.field-0-is c.in-Err-NoSwap.ensures.err) c.in-Err-NoSwap.ensures.slots_unchanged,
    )

pub returns-in-Ok-evict_of-clause-spared : goal.returns-in-Ok-evict_of-clause-spared
returns-in-Ok-evict_of-clause-spared g c =
    let leaves = subst (λ (spared : Option (ℕ × ℕ)). may_leave spared (pages_in c.guest.result.now) c.drawn_page-p.result ≡ true) c.spared_of.ensures c.drawn_page-p.ensures.page.leaves in
    evicted_spares c.in-Some.g c.drawn_page-p.result c.args.self.now.tenants c.evict_of.new.self.tenants c.args.self.now.slots c.args.spared.now c.evict_of.ensures.moves
    (λ t. subst (λ (u : TenantIs). may_leave (spared_of c.args.spared.now c.in-Some.g) (pages_in u) c.drawn_page-p.result ≡ true) (c.guest.ensures t) leaves) c.in-Ok-evict_of.ensures.page

pub evict_of-requires-clause-resident : goal.evict_of-requires-clause-resident
evict_of-requires-clause-resident g c = λ t.
    let p = c.drawn_page-p.result in
    subst (λ (u : TenantIs). is_resident (kind_at (pages_in u) p) ≡ true) (c.guest.ensures t)
    (leaves_resident c.spared_of.result (pages_in c.guest.result.now) p c.drawn_page-p.ensures.page.leaves)
