-- The lines of a stream, as far as a piece of it has been read.
use Rattle.std.proofs.Common.{◌≡◌, ◌≢◌, ℕ, ◌+◌, ◌<◌, List, [], ◌∷◌, ◌++◌, length, map, get_or, take, sym, ◌∙◌, ap, subst, append_assoc}
use Rattle.std.proofs.lemmas.List.{map-append, take_more}
use Rattle.debugline.specs.Lines.{Line, Text, end, IsLines, with_byte}
use Rattle.debugline.specs.Views.{line_view}
use Rattle.debugline.specs.declared.line.Line.{Line as LineCode}
use Rattle.debugline.proofs.Streams.{byte_more, line_ended}

-- a stream with one byte more of the piece
one_more : (stream piece : List ℕ) (i : ℕ) → i < length piece → (stream ++ take i piece) ++ get_or piece i 0 ∷ [] ≡ stream ++ take (i + 1) piece
one_more stream piece i below =
    append_assoc stream (take i piece) (get_or piece i 0 ∷ [])
    ∙ ap (λ (bs : List ℕ). stream ++ bs) (sym (take_more piece i 0 below))

-- one line more
one_line_more : (before : List Line) (lines after : List LineCode) (rest : LineCode) → after ≡ lines ++ rest ∷ [] → (before ++ map line_view lines) ++ line_view rest ∷ [] ≡ before ++ map line_view after
one_line_more before lines after rest pushed =
    append_assoc before (map line_view lines) (line_view rest ∷ [])
    ∙ ap (λ (ls : List Line). before ++ ls) (sym (ap (map line_view) pushed ∙ map-append line_view lines (rest ∷ [])))

-- the byte at a place of the piece ends a line
pub ended_here : (stream piece : List ℕ) (i : ℕ) (before : List Line) (lines after : List LineCode) (rest : LineCode) (new : Line) → i < length piece → get_or piece i 0 ≡ end → after ≡ lines ++ rest ∷ [] → new ≡ Text []
    → IsLines (stream ++ take i piece) (before ++ map line_view lines) (line_view rest) → IsLines (stream ++ take (i + 1) piece) (before ++ map line_view after) new
ended_here stream piece i before lines after rest new below ends pushed empty h =
    let here : IsLines ((stream ++ take i piece) ++ get_or piece i 0 ∷ []) ((before ++ map line_view lines) ++ line_view rest ∷ []) (Text []) =
    rw ends (line_ended (stream ++ take i piece) (before ++ map line_view lines) (line_view rest) h) in
    let P : List ℕ → Type 0 = λ s. IsLines s (before ++ map line_view after) new in
    let Q : List Line → Type 0 = λ ls. IsLines ((stream ++ take i piece) ++ get_or piece i 0 ∷ []) ls new in
    let R : Line → Type 0 = λ r. IsLines ((stream ++ take i piece) ++ get_or piece i 0 ∷ []) ((before ++ map line_view lines) ++ line_view rest ∷ []) r in
    subst P (one_more stream piece i below) (subst Q (one_line_more before lines after rest pushed) (subst R (sym empty) here))

-- it ends no line
pub goes_on_here : (stream piece : List ℕ) (i : ℕ) (lines : List Line) (rest new : Line) → i < length piece → get_or piece i 0 ≢ end → new ≡ with_byte rest (get_or piece i 0)
    → IsLines (stream ++ take i piece) lines rest → IsLines (stream ++ take (i + 1) piece) lines new
goes_on_here stream piece i lines rest new below other longer h =
    let P : List ℕ → Type 0 = λ s. IsLines s lines new in
    let R : Line → Type 0 = λ r. IsLines ((stream ++ take i piece) ++ get_or piece i 0 ∷ []) lines r in
    subst P (one_more stream piece i below) (subst R (sym longer) (byte_more (stream ++ take i piece) (get_or piece i 0) lines rest other h))
