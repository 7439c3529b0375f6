-- The steps of the second pass.
use Rattle.std.proofs.Common.{◌≡◌, ℕ, ℤ, Bool, true, List, [], ◌∷◌, ◌++◌, refl, ap, Ok, Err, Result, Some, Vec, Global}
use Rattle.std.specs.Result.{IsErrAnd}
use Rattle.masm.specs.Meanings.{Bytes, item_of, loaded, words_bytes}
use Rattle.masm.specs.Answers.{Follows, IsOutput, is_word}
use Rattle.masm.specs.declared.output.Output.{Output as OutputCode}
use Rattle.masm.proofs.OutputItems.{item_pushed}
use Rattle.masm_lines.specs.Operands.{Value}
use Rattle.masm_lines.specs.Steps.{◌>>=◌}
use Rattle.masm_lines.specs.declared.text.Text.{Text}
use Rattle.masm.specs.Listings.{Output, with_item, with_statement}
use Rattle.masm.specs.Names.{Names, value_address}
use Rattle.masm_lines.specs.Statements.{Load, Words, Byte, Data, Space}
use Rattle.masm_lines.specs.Views.{statement_view}
use Rattle.masm_lines.specs.declared.fault.AsmFault.{AsmFault}
use Rattle.masm.specs.declared.error.LineError.{LineError}
use Rattle.masm.specs.declared.error.LineError.TheVariants as of_line
use Rattle.masm_lines.specs.declared.statement.Statement.{Statement as StatementCode}
use Rattle.masm_lines.specs.declared.statement.Statement.TheVariants as statement_code
use Rattle.word32.specs.Zeros.{zeros}
use Rattle.std.specs.Borrow.{Bor}

pub follows_ok : {A : Type 0} (Is : A → Type 0) (step : Result A AsmFault) (next : A) → step ≡ Ok next → Is next → Follows Is (Ok tt) step
follows_ok Is step next e h = rw e h

pub follows_fault : {A : Type 0} (Is : A → Type 0) (r : Result Unit LineError) (step : Result A AsmFault) (f : AsmFault) → IsErrAnd r (λ e. e ≡ of_line.Fault f) → step ≡ Err f → Follows Is r step
follows_fault Is (Ok u) step f h e = absurd h
follows_fault Is (Err (of_line.Fault g)) step f h e = cc
follows_fault Is (Err (of_line.Memory a)) step f h e = tt

pub byte_step : (known : Names) (o : Output) (n : ℕ) → with_statement known o (Some (Byte n)) ≡ Ok (with_item o (Bytes (n ∷ [])))
unfolding item_of
byte_step known o n = refl

pub space_step : (known : Names) (o : Output) (n : ℕ) → with_statement known o (Some (Space n)) ≡ Ok (with_item o (Bytes (zeros n)))
unfolding item_of
space_step known o n = refl

pub data_step : (known : Names) (o : Output) (alignment : ℕ) (bytes : List ℕ) → with_statement known o (Some (Data alignment bytes)) ≡ Ok (with_item o (Bytes bytes))
unfolding item_of
data_step known o alignment bytes = refl

pub load_step : (known : Names) (o : Output) (rt n : ℕ) (v : Value) → value_address known v ≡ Ok n → with_statement known o (Some (Load rt v)) ≡ Ok (with_item o (loaded rt n))
unfolding item_of
load_step known o rt n v h = rw h refl

pub load_fault : (known : Names) (o : Output) (rt : ℕ) (v : Value) (f : AsmFault) → value_address known v ≡ Err f → with_statement known o (Some (Load rt v)) ≡ Err f
unfolding item_of
load_fault known o rt v f h = rw h refl

-- what words put
words_follow_by : (r : Result Unit LineError) (step : Result (List ℕ) AsmFault) (code : OutputCode) (bytes : Vec ℕ Global) (o : Output) → IsOutput code o → Follows (λ put. bytes.items ≡ code.bytes.items ++ put) r step
    → Follows (IsOutput (record code { bytes = bytes })) r ((step >>= λ put. Ok (Bytes put)) >>= λ item. Ok (with_item o item))
words_follow_by (Ok done) (Ok put) code bytes o is follows = item_pushed code bytes o put (Bytes put) follows is refl
words_follow_by (Ok done) (Err f) code bytes o is follows = absurd follows
words_follow_by (Err (of_line.Fault f)) step code bytes o is follows = ap (λ (r : Result (List ℕ) AsmFault). (r >>= λ put. Ok (Bytes put)) >>= λ item. Ok (with_item o item)) follows
words_follow_by (Err (of_line.Memory a)) step code bytes o is follows = tt

pub words_follow : (known : Names) (r : Result Unit LineError) (values : List Value) (code : OutputCode) (bytes : Vec ℕ Global) (o : Output) → IsOutput code o → Follows (λ put. bytes.items ≡ code.bytes.items ++ put) r (words_bytes known values)
    → Follows (IsOutput (record code { bytes = bytes })) r (with_statement known o (Some (Words values)))
unfolding item_of
words_follow known r values code bytes o is follows = words_follow_by r (words_bytes known values) code bytes o is follows

-- the statements of a word are the others
abbrev Never : {A : Type 0} → StatementCode → (A → StatementCode) → Type 0
Never {A} s make = (x : A) → s ≡ make x → ⊥

pub word_is : (s : StatementCode) → Never s statement_code.Byte → Never s statement_code.Space → Never s statement_code.Org → Never s statement_code.Entry
    → ((r : ℕ) (x : ℤ) → s ≡ statement_code.Load r x → ⊥) → ((r : ℕ) (x : Bor (List ℕ)) → s ≡ statement_code.LoadOf r x → ⊥)
    → Never s statement_code.Words → Never s statement_code.Halves → Never s statement_code.Bytes → ((x : Text) (z : Bool) → s ≡ statement_code.Text x z → ⊥)
    → is_word (statement_view s) ≡ true
word_is (statement_code.Instruction i) b s o e l m w h y t = refl
word_is (statement_code.Transfer i n) b s o e l m w h y t = refl
word_is (statement_code.TransferTo i n) b s o e l m w h y t = refl
word_is (statement_code.Word n) b s o e l m w h y t = refl
word_is (statement_code.AddressOf n) b s o e l m w h y t = refl
word_is (statement_code.Load r n) b s o e l m w h y t = absurd (l r n refl)
word_is (statement_code.LoadOf r n) b s o e l m w h y t = absurd (m r n refl)
word_is (statement_code.Words n) b s o e l m w h y t = absurd (w n refl)
word_is (statement_code.Halves n) b s o e l m w h y t = absurd (h n refl)
word_is (statement_code.Bytes n) b s o e l m w h y t = absurd (y n refl)
word_is (statement_code.Text n z) b s o e l m w h y t = absurd (t n z refl)
word_is (statement_code.Byte n) b s o e l m w h y t = absurd (b n refl)
word_is (statement_code.Space n) b s o e l m w h y t = absurd (s n refl)
word_is (statement_code.Org n) b s o e l m w h y t = absurd (o n refl)
word_is (statement_code.Entry n) b s o e l m w h y t = absurd (e n refl)
