-- Each step keeps the rule of a console queue.
use Rattle.std.proofs.Common.{◌≡◌, ◌≢◌, ℕ, zero, suc, true, false, true≢false, List, [], ◌∷◌, ◌++◌, length, set, sym, refl, ap, ◌∙◌, subst, ⊎_elim, append_assoc}
use mathlib.Core.Option.{some, some-ne-none}
use lib.ListN.{get_elem?}
use Rattle.crossbeam_queue.specs.Fifo.{Pushes, Pops, Forks, Merges, Learns}
use Rattle.crossbeam_queue.proofs.Lists.{at_set, at_snoc}
use Rattle.console_queue.specs.declared.log.Log.{Log}
use Rattle.console_queue.specs.Queues.{Ends}
use Rattle.console_queue.specs.Rule.{log, log_put, log_taken, Whole, Knows, IsKept, TakesRest}

abbrev Each : (ℕ → Log → Type 0) → List Log → Type 0
Each F views = (pass : ℕ) (v : Log) → get_elem? views pass ≡ some v → F pass v

-- of the last of a list
at_last : (views : List Log) (new v : Log) (pass : ℕ) → get_elem? views pass ≢ some v → get_elem? (views ++ new ∷ []) pass ≡ some v → pass ≡ length views
at_last [] new v zero n e = refl
at_last [] new v (suc pass) n e = absurd (some-ne-none v (sym e))
at_last (u ∷ us) new v zero n e = absurd (n e)
at_last (u ∷ us) new v (suc pass) n e = ap suc (at_last us new v pass n e)

-- where one view changes
each_set : (F : ℕ → Log → Type 0) (views : List Log) (pass : ℕ) (w : Log) → F pass w → ((other : ℕ) (u : Log) → other ≢ pass → get_elem? views other ≡ some u → F other u) → Each F (set views pass w)
each_set F views pass w mine others other u e =
    ⊎_elim (λ (x : (other ≡ pass) × (w ≡ u)). subst (λ (y : ℕ × Log). F y.0 y.1) (λ i. (sym x.0 i, x.1 i)) mine)
    (λ (x : (other ≢ pass) × (get_elem? views other ≡ some u)). others other u x.0 x.1)
    (at_set views pass other w u e)

not_true : false ≡ true → ⊥
not_true e = true≢false (sym e)

-- a pass that may do neither
idle : (x : Whole) (pass : ℕ) → Knows x pass (log false false [] [])
idle x pass = record { puts = λ p. absurd (not_true p); takes = λ p. absurd (not_true p) }

pub begins : IsKept [] (log true true [] [] ∷ [])
begins =
    let x : Whole = record { putter = 0; taker = 0; put = []; taken = [] } in
    record {
      whole = x;
      in_order = refl;
      knows = each_set (Knows x) (log true true [] [] ∷ []) 0 (log true true [] []) (record { puts = λ _. (refl, refl); takes = λ _. (refl, refl) })
          (λ other u apart e. absurd (apart (at_last [] (log true true [] []) u other (λ x. some-ne-none u (sym x)) e)));
    }

pub puts : (room pass : ℕ) (v : Log) (byte : ℕ) → v.puts ≡ true → Pushes IsKept room pass v byte (λ w. w ≡ log_put v byte)
puts room pass v byte may waiting views _ kept at =
    let mine = kept.knows pass v at in
    let is = mine.puts may in
    let x : Whole = record { putter = kept.whole.putter; taker = kept.whole.taker; put = kept.whole.put ++ byte ∷ []; taken = kept.whole.taken } in (
      log_put v byte,
      record {
        whole = x;
        in_order = ap (λ l. l ++ byte ∷ []) kept.in_order ∙ append_assoc kept.whole.taken waiting (byte ∷ []);
        knows = each_set (Knows x) views pass (log_put v byte) (record { puts = λ _. (is.0, ap (λ l. l ++ byte ∷ []) is.1); takes = mine.takes })
            (λ other u apart e. record { puts = λ p. absurd (apart (((kept.knows other u e).puts p).0 ∙ sym is.0)); takes = (kept.knows other u e).takes });
      },
      refl,
    )

-- what the passes know after a byte is taken
taken_kept : (pass : ℕ) (v : Log) (byte : ℕ) (waiting : List ℕ) (views : List Log) → v.takes ≡ true → IsKept (byte ∷ waiting) views → get_elem? views pass ≡ some v
    → IsKept waiting (set views pass (log_taken v byte))
taken_kept pass v byte waiting views may kept at =
    let mine = kept.knows pass v at in
    let is = mine.takes may in
    let x : Whole = record { putter = kept.whole.putter; taker = kept.whole.taker; put = kept.whole.put; taken = kept.whole.taken ++ byte ∷ [] } in
    record {
      whole = x;
      in_order = kept.in_order ∙ sym (append_assoc kept.whole.taken (byte ∷ []) waiting);
      knows = each_set (Knows x) views pass (log_taken v byte) (record { puts = mine.puts; takes = λ _. (is.0, ap (λ l. l ++ byte ∷ []) is.1) })
          (λ other u apart e. record { puts = (kept.knows other u e).puts; takes = λ p. absurd (apart (((kept.knows other u e).takes p).0 ∙ sym is.0)) });
    }

pub takes : (pass : ℕ) (v : Log) → v.takes ≡ true → Pops IsKept pass v (λ byte w. w ≡ log_taken v byte)
takes pass v may byte waiting views kept at = (log_taken v byte, taken_kept pass v byte waiting views may kept at, refl)

-- the pass that may do both knows that what it put is what it took and then what waits
knows_both : (pass : ℕ) (v : Log) (waiting : List ℕ) (views : List Log) → v.puts ≡ true → v.takes ≡ true → IsKept waiting views → get_elem? views pass ≡ some v → v.put ≡ v.taken ++ waiting
knows_both pass v waiting views a b kept at = let mine = kept.knows pass v at in (mine.puts a).1 ∙ kept.in_order ∙ ap (λ l. l ++ waiting) (sym (mine.takes b).1)

pub takes_rest : (pass : ℕ) (v : Log) → v.puts ≡ true → v.takes ≡ true → Pops IsKept pass v (TakesRest v)
takes_rest pass v a b byte waiting views kept at = (
  log_taken v byte,
  taken_kept pass v byte waiting views b kept at,
  record { log_is = refl; more = waiting; put_is = knows_both pass v (byte ∷ waiting) views a b kept at },
)

pub learns_both : (pass : ℕ) (v : Log) → v.puts ≡ true → v.takes ≡ true → Learns IsKept pass v (λ waiting. v.put ≡ v.taken ++ waiting)
learns_both pass v a b waiting views kept at = knows_both pass v waiting views a b kept at

pub learns_ends : (pass : ℕ) (v : Log) → v.puts ≡ true → Learns IsKept pass v (λ waiting. Ends v.put waiting)
learns_ends pass v may waiting views kept at = (kept.whole.taken, ((kept.knows pass v at).puts may).1 ∙ kept.in_order)

pub forks : (pass : ℕ) (v : Log) → v.puts ≡ true → v.takes ≡ true → Forks IsKept pass v (log true false v.put []) (log false true [] v.taken)
forks pass v a b waiting views kept at =
    let l : Log = log true false v.put [] in
    let r : Log = log false true [] v.taken in
    let mine = kept.knows pass v at in
    let vs : List Log = set views pass l in
    let Old : ℕ → Log → Type 0 = λ j u. (u.puts ≡ true → (j ≡ kept.whole.putter) × (u.put ≡ kept.whole.put)) × (u.takes ≢ true) in
    let old : Each Old vs = each_set Old views pass l ((λ _. mine.puts a), not_true) (λ j u other e. ((kept.knows j u e).puts, λ p. other (((kept.knows j u e).takes p).0 ∙ sym (mine.takes b).0))) in
    let x : Whole = record { putter = kept.whole.putter; taker = length vs; put = kept.whole.put; taken = kept.whole.taken } in
    record {
      whole = x;
      in_order = kept.in_order;
      knows = λ j u e. ⊎_elim (λ h. record { puts = (old j u h).0; takes = λ p. absurd ((old j u h).1 p) })
          (λ (is : r ≡ u). record {
            puts = λ p. absurd (not_true (ap (λ (y : Log). y.puts) is ∙ p));
            takes = λ p. (at_last vs r u j (λ h. (old j u h).1 p) e, ap (λ (y : Log). y.taken) (sym is) ∙ (mine.takes b).1);
          })
          (at_snoc vs r u j e);
    }

pub merges : (pass : ℕ) (v : Log) (other : ℕ) (u : Log) → v.puts ≡ true → u.takes ≡ true → Merges IsKept pass v other u (log true true v.put u.taken) (log false false [] [])
merges pass v other u a b waiting views kept at two at' =
    let both : Log = log true true v.put u.taken in
    let mine = kept.knows pass v at in
    let vs : List Log = set views pass both in
    let was : get_elem? views other ≡ some u = ⊎_elim (λ h. absurd (two h.0)) (λ h. h.1) (at_set views pass other both u at') in
    let theirs = (kept.knows other u was).takes b in
    let x : Whole = record { putter = kept.whole.putter; taker = pass; put = kept.whole.put; taken = kept.whole.taken } in
    let Now : ℕ → Log → Type 0 = λ j y. j ≢ other → Knows x j y in
    let now : Each Now vs = each_set Now views pass both (λ _. record { puts = λ _. mine.puts a; takes = λ _. (refl, theirs.1) })
    (λ j y _ e apart. record { puts = (kept.knows j y e).puts; takes = λ p. absurd (apart (((kept.knows j y e).takes p).0 ∙ sym theirs.0)) }) in
    record {
      whole = x;
      in_order = kept.in_order;
      knows = each_set (Knows x) vs other (log false false [] []) (idle x other) (λ j y apart e. now j y e apart);
    }
