-- Lists in which the same place is of the same guest.
use Rattle.std.proofs.Common.{◌≡◌, ℕ, zero, suc, List, [], ◌∷◌, ◌++◌, length, Option, Some, None, length-append, refl, sym, arith, subst}
use Rattle.std.specs.List.{AllZip, slice_get}
use Rattle.guest_cells.specs.Places.{AllZip3}

some_is : {X : Type 0} (x y : X) → Some x ≡ Some y → x ≡ y
some_is x y e = cc

none_is_some : {X : Type 0} (o : Option X) (x : X) → o ≡ None → o ≡ Some x → ⊥
none_is_some o x none some = absurd (cc)

-- ---- two lists

module _ {A B : Type 0} (R : A → B → Type 0) where
  pub zip_count : (xs : List A) (ys : List B) → AllZip R xs ys → length xs ≡ length ys
  zip_count [] [] are = refl
  zip_count [] (y ∷ ys) are = absurd are
  zip_count (x ∷ xs) [] are = absurd are
  zip_count (x ∷ xs) (y ∷ ys) are = omega (arith, zip_count xs ys are.1)

  pub zip_at : (xs : List A) (ys : List B) (g : ℕ) (x : A) (y : B) → AllZip R xs ys → slice_get xs g ≡ Some x → slice_get ys g ≡ Some y → R x y
  zip_at [] ys g x y are this that = absurd (none_is_some (slice_get [] g) x refl this)
  zip_at (a ∷ xs) [] g x y are this that = absurd are
  zip_at (a ∷ xs) (b ∷ ys) zero x y are this that = subst (R x) (some_is b y that) (subst (λ (z : A). R z b) (some_is a x this) are.0)
  zip_at (a ∷ xs) (b ∷ ys) (suc g) x y are this that = zip_at xs ys g x y are.1 this that

  pub zip_by_place : (xs : List A) (ys : List B) → length xs ≡ length ys
      → ((g : ℕ) (x : A) (y : B) → slice_get xs g ≡ Some x → slice_get ys g ≡ Some y → R x y) → AllZip R xs ys
  zip_by_place [] [] same each = tt
  zip_by_place [] (y ∷ ys) same each = absurd (omega (arith, same))
  zip_by_place (x ∷ xs) [] same each = absurd (omega (arith, same))
  zip_by_place (x ∷ xs) (y ∷ ys) same each =
      (each 0 x y refl refl, zip_by_place xs ys (omega (arith, same)) (λ g a b this that. each (suc g) a b this that))

  zip_last : (xs : List A) (x : A) (ys : List B) (y : B) → AllZip R (xs ++ x ∷ []) (ys ++ y ∷ []) → R x y × AllZip R xs ys
  zip_last [] x [] y are = (are.0, tt)
  zip_last [] x (b ∷ ys) y are = absurd (omega (arith, zip_count [] (ys ++ y ∷ []) are.1, length-append ys (y ∷ [])))
  zip_last (a ∷ xs) x [] y are = absurd (omega (arith, zip_count (xs ++ x ∷ []) [] are.1, length-append xs (x ∷ [])))
  zip_last (a ∷ xs) x (b ∷ ys) y are = let more = zip_last xs x ys y are.1 in (more.0, (are.0, more.1))

  -- the last of both
  pub zip_popped : (xs xs' : List A) (x : A) (ys ys' : List B) (y : B) → AllZip R xs ys → xs ≡ xs' ++ x ∷ [] → ys ≡ ys' ++ y ∷ [] → R x y × AllZip R xs' ys'
  zip_popped xs xs' x ys ys' y are first second =
      zip_last xs' x ys' y (subst (λ (l : List B). AllZip R (xs' ++ x ∷ []) l) second (subst (λ (l : List A). AllZip R l ys) first are))

  zip_push : (xs : List A) (x : A) (ys : List B) (y : B) → AllZip R xs ys → R x y → AllZip R (xs ++ x ∷ []) (ys ++ y ∷ [])
  zip_push [] x [] y are is = (is, tt)
  zip_push [] x (b ∷ ys) y are is = absurd are
  zip_push (a ∷ xs) x [] y are is = absurd are
  zip_push (a ∷ xs) x (b ∷ ys) y are is = (are.0, zip_push xs x ys y are.1 is)

  -- one more at the end of both
  pub zip_pushed : (xs xs' : List A) (x : A) (ys ys' : List B) (y : B) → xs ≡ xs' ++ x ∷ [] → ys ≡ ys' ++ y ∷ [] → AllZip R xs' ys' → R x y → AllZip R xs ys
  zip_pushed xs xs' x ys ys' y first second are is =
      subst (λ (l : List A). AllZip R l ys) (sym first) (subst (λ (l : List B). AllZip R (xs' ++ x ∷ []) l) (sym second) (zip_push xs' x ys' y are is))

-- ---- three lists

module _ {A B C : Type 0} (R : A → B → C → Type 0) where
  pub zip3_count : (xs : List A) (ys : List B) (zs : List C) → AllZip3 R xs ys zs → (length xs ≡ length ys) × (length ys ≡ length zs)
  zip3_count [] [] [] are = (refl, refl)
  zip3_count [] [] (z ∷ zs) are = absurd are
  zip3_count [] (y ∷ ys) zs are = absurd are
  zip3_count (x ∷ xs) [] zs are = absurd are
  zip3_count (x ∷ xs) (y ∷ ys) [] are = absurd are
  zip3_count (x ∷ xs) (y ∷ ys) (z ∷ zs) are = let more = zip3_count xs ys zs are.1 in (omega (arith, more.0), omega (arith, more.1))

  pub zip3_at : (xs : List A) (ys : List B) (zs : List C) (g : ℕ) (x : A) (y : B) (z : C) → AllZip3 R xs ys zs
      → slice_get xs g ≡ Some x → slice_get ys g ≡ Some y → slice_get zs g ≡ Some z → R x y z
  zip3_at [] ys zs g x y z are this that other = absurd (none_is_some (slice_get [] g) x refl this)
  zip3_at (a ∷ xs) [] zs g x y z are this that other = absurd are
  zip3_at (a ∷ xs) (b ∷ ys) [] g x y z are this that other = absurd are
  zip3_at (a ∷ xs) (b ∷ ys) (c ∷ zs) zero x y z are this that other =
      subst (R x y) (some_is c z other) (subst (λ (w : B). R x w c) (some_is b y that) (subst (λ (w : A). R w b c) (some_is a x this) are.0))
  zip3_at (a ∷ xs) (b ∷ ys) (c ∷ zs) (suc g) x y z are this that other = zip3_at xs ys zs g x y z are.1 this that other

  zip3_push : (xs : List A) (x : A) (ys : List B) (y : B) (zs : List C) (z : C) → AllZip3 R xs ys zs → R x y z → AllZip3 R (xs ++ x ∷ []) (ys ++ y ∷ []) (zs ++ z ∷ [])
  zip3_push [] x [] y [] z are is = (is, tt)
  zip3_push [] x [] y (c ∷ zs) z are is = absurd are
  zip3_push [] x (b ∷ ys) y zs z are is = absurd are
  zip3_push (a ∷ xs) x [] y zs z are is = absurd are
  zip3_push (a ∷ xs) x (b ∷ ys) y [] z are is = absurd are
  zip3_push (a ∷ xs) x (b ∷ ys) y (c ∷ zs) z are is = (are.0, zip3_push xs x ys y zs z are.1 is)

  -- one more at the end of each
  pub zip3_more : (xs xs' : List A) (x : A) (ys ys' : List B) (y : B) (zs zs' : List C) (z : C) → xs ≡ xs' ++ x ∷ [] → ys ≡ ys' ++ y ∷ [] → zs ≡ zs' ++ z ∷ []
      → AllZip3 R xs' ys' zs' → R x y z → AllZip3 R xs ys zs
  zip3_more xs xs' x ys ys' y zs zs' z first second third are is =
      subst (λ (l : List A). AllZip3 R l ys zs) (sym first)
      (subst (λ (l : List B). AllZip3 R (xs' ++ x ∷ []) l zs) (sym second)
      (subst (λ (l : List C). AllZip3 R (xs' ++ x ∷ []) (ys' ++ y ∷ []) l) (sym third) (zip3_push xs' x ys' y zs' z are is)))

  pub zip3_none : (xs : List A) (ys : List B) (zs : List C) → xs ≡ [] → ys ≡ [] → zs ≡ [] → AllZip3 R xs ys zs
  zip3_none [] [] [] first second third = tt
  zip3_none [] [] (z ∷ zs) first second third = absurd (cc)
  zip3_none [] (y ∷ ys) zs first second third = absurd (cc)
  zip3_none (x ∷ xs) ys zs first second third = absurd (cc)
