-- Pages of one outline and one memory are the same pages.
use Rattle.std.proofs.Common.{ℕ, ◌≡◌, List, [], ◌∷◌, ◌++◌, length, take, drop, refl, sym, ap, ◌∙◌}
use Rattle.std.proofs.lemmas.List.Elements.{All-head, All-tail}
use Rattle.std.proofs.Math.Seq.{take-append_seam, drop-append_seam}
use Rattle.frames.specs.Frames.{FrameIs}
use Rattle.guest_pages.specs.declared.page.Page.{Page}
use Rattle.guest_pages.specs.declared.page.Page.TheVariants.{Zero, Given, Private, Shared, Swapped}
use Rattle.guest_pages.specs.Pages.{shown, memory_of, AreWhole}
use Rattle.guest_pages.specs.Outline.{outlined, outline}
use Rattle.guest_pages.proofs.Memory.{HasPageLength}

-- joined bytes whose first parts are of one length have the same parts
first_part : (xs ys more others : List ℕ) → length xs ≡ length ys → xs ++ more ≡ ys ++ others → xs ≡ ys
first_part xs ys more others n same =
    sym (take-append_seam xs more) ∙ ap (λ k. take k (xs ++ more)) n ∙ ap (take (length ys)) same ∙ take-append_seam ys others

rest_part : (xs ys more others : List ℕ) → length xs ≡ length ys → xs ++ more ≡ ys ++ others → more ≡ others
rest_part xs ys more others n same =
    sym (drop-append_seam xs more) ∙ ap (λ k. drop k (xs ++ more)) n ∙ ap (drop (length ys)) same ∙ drop-append_seam ys others

number_of : Page → ℕ
number_of (Private frame) = frame.number
number_of _ = 0

same_number : (f g : FrameIs) → outlined (Private f) ≡ outlined (Private g) → f.number ≡ g.number
unfolding number_of
same_number f g same = ap number_of same

same_page : (one other : Page) → outlined one ≡ outlined other → shown one ≡ shown other → one ≡ other
same_page (Private f) (Private g) same bytes =
    ap (λ n. Private (record { number = n; bytes = f.bytes })) (same_number f g same)
    ∙ ap (λ b. Private (record { number = g.number; bytes = b })) bytes
same_page Zero Zero same bytes = refl
same_page Given Given same bytes = refl
same_page (Shared s t) (Shared u v) same bytes = same
same_page (Swapped s d) (Swapped t e) same bytes = same
same_page one other same bytes = absurd (cc)

pub same_pages : (ones others : List Page) → AreWhole ones → AreWhole others → outline ones ≡ outline others → memory_of ones ≡ memory_of others → ones ≡ others
same_pages [] [] whole_ones whole_others outlines memories = refl
same_pages [] (other ∷ others) whole_ones whole_others outlines memories = absurd (cc)
same_pages (one ∷ ones) [] whole_ones whole_others outlines memories = absurd (cc)
same_pages (one ∷ ones) (other ∷ others) whole_ones whole_others outlines memories =
    let n : length (shown one) ≡ length (shown other) = All-head HasPageLength one ones whole_ones ∙ sym (All-head HasPageLength other others whole_others) in
    let head : outlined one ≡ outlined other = cc in
    let tail : outline ones ≡ outline others = cc in
    let here : one ≡ other = same_page one other head (first_part (shown one) (shown other) (memory_of ones) (memory_of others) n memories) in
    let there : ones ≡ others =
    same_pages ones others (All-tail HasPageLength one ones whole_ones) (All-tail HasPageLength other others whole_others) tail
    (rest_part (shown one) (shown other) (memory_of ones) (memory_of others) n memories) in
    cc
