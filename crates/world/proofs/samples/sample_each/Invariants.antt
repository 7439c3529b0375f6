use Rattle.std.proofs.Common.{◌≡◌, ℕ, ◌*◌, ◌<◌, ◌≤◌, length, get_or}
use Rattle.world.proofs.All.{IsSampled, TenantIs, after_words}
use Rattle.world.proofs.samples.sample_each.Given as goal

-- the guests so far are sampled, and the others are as they were
abbrev pub invariant-loop-g : goal.invariant-loop-g
invariant-loop-g w l =
    let stream = w.R.Rng.stream in
    record {
      count : length l.tenants ≡ length l.fn.tenants;
      sampled : (h : ℕ) (t : TenantIs) → h < l.g → IsSampled (after_words (100 * h) (stream l.fn.rng)) (get_or l.fn.tenants h t) (get_or l.tenants h t);
      others : (h : ℕ) (t : TenantIs) → l.g ≤ h → get_or l.tenants h t ≡ get_or l.fn.tenants h t;
      words : stream l.rng ≡ after_words (100 * l.g) (stream l.fn.rng);
    }
