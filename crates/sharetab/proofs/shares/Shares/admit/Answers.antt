use Rattle.std.proofs.Common.{rules, ℕ, List, Some, None, ◌≡◌, ◌<◌, length, sym, ap, subst, ◌∙◌}
use Rattle.sha2.specs.Sha256.{sha256}
use Rattle.sharetab.specs.Maps.{at_digest}
use Rattle.sharetab.specs.Entries.{EntriesAre, entry_at, HasDigest}
use Rattle.sharetab.specs.Shares.{Indexes}
use Rattle.sharetab.proofs.Indexing.{indexes_put}
use Rattle.sharetab.proofs.shares.Shares.admit.Goals as goal

pub invariant_of-self-in-Ok-share : goal.invariant_of-self-in-Ok-share
invariant_of-self-in-Ok-share c =
    let es = c.self.inside.entries in
    let y = c.new.result in
    let h' = c.put.new.self in
    let same : c.args.self.now.entries ≡ es = search rules in
    let number : c.args.frame.number ≡ y.number = search rules in
    let bytes : c.args.frame.bytes ≡ y.bytes = search rules in
    let digest : c.digest_of-digest.result ≡ sha256 y.bytes = search rules in
    let inside : y.number < length es = subst (λ (n : ℕ). n < length es) number (subst (λ (l : EntriesAre). c.args.frame.number < length l) same c.requires.there) in
    let vacant : entry_at es y.number ≡ None = subst (λ (n : ℕ). entry_at es n ≡ None) number (subst (λ (l : EntriesAre). entry_at l c.args.frame.number ≡ None) same c.requires.vacant) in
    let first : HasDigest es (sha256 y.bytes) → ⊥ = λ has. c.requires.first (subst (λ (d : List ℕ). HasDigest c.args.self.now.entries d) (ap sha256 (sym bytes)) (subst (λ (l : EntriesAre). HasDigest l (sha256 y.bytes)) (sym same) has)) in
    let here : at_digest h' (sha256 y.bytes) ≡ Some y.number = search rules in
    let others : (d : List ℕ) → (d ≡ sha256 y.bytes → ⊥) → at_digest h' d ≡ at_digest c.self.inside.index d = λ d apart. c.in-Ok.ensures.others d (λ is. apart (is ∙ digest)) in
    subst (λ (l : EntriesAre). Indexes l h') (sym c.put-in-Ok-share.ensures) (indexes_put es y.number y c.self.inside.index h' c.self.invariant inside vacant first here others)
