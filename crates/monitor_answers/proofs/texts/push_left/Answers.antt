use Rattle.std.proofs.Common.{◌≡◌, ℕ, List, ◌++◌, Result, Ok, Err, OnOk, codes, decimal, ap, ◌∙◌, append_assoc}
use Rattle.std.specs.Prelude.{is_ok, if◌then◌else◌, string_bytes}
use Rattle.monitor_answers.proofs.texts.push_left.Goals as goal

said : {T E : Type 0} (r : Result T E) (new old text whole : List ℕ) → new ≡ (if is_ok r then old ++ text else old) → old ++ text ≡ whole → OnOk r (new ≡ whole)
said (Ok u) new old text whole e g = e ∙ g
said (Err u) new old text whole e g = tt

joined : (o a f b s n x y : List ℕ) → x ≡ (o ++ a) ++ f → y ≡ (x ++ b) ++ s → y ++ n ≡ o ++ ((((a ++ f) ++ b) ++ s) ++ n)
joined o a f b s n x y p q = ap (λ (l : List ℕ). l ++ n) q ∙ ap (λ (l : List ℕ). ((l ++ b) ++ s) ++ n) p ∙ simp append_assoc

pub returns : goal.returns
returns c =
    let o = string_bytes c.args.out.now in
    let x = string_bytes c.push_number.new.out in
    let y = string_bytes c.push_number-2.new.out in
    said c.push_str.result (string_bytes c.push_str.new.self) y (codes "\n") (o ++ ((((codes "room frames " ++ decimal c.args.frames) ++ codes " slots ") ++ decimal c.args.slots) ++ codes "\n"))
    c.push_str.ensures.bytes
    (joined o (codes "room frames ") (decimal c.args.frames) (codes " slots ") (decimal c.args.slots) (codes "\n") x y c.in_ok-push_number.ensures c.in_ok-push_number-2.ensures)
