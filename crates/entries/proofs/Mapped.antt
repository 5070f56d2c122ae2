-- What a `map_err` before a `?` was asked for: the value is as it was, and an error comes from one.
use mathlib.Core.Path.{◌≡◌, refl}
use Rattle.std.specs.Prelude.{Result, Ok, Err, MatchResult}
use Rattle.std.specs.Result.{IsErrAnd}

module _ {A E F : Type 0} (P : E → F → Type 0) where
  pub ok_before : (r : Result A E) {m : Result A F} {x : A} → MatchResult r (λ y. m ≡ Ok y) (λ e. IsErrAnd m (P e)) → m ≡ Ok x
      → r ≡ Ok x
  ok_before (Ok y) h e = cc
  ok_before (Err y) h e = absurd (rw e at h)

  pub err_before : (r : Result A E) {m : Result A F} {f : F} → MatchResult r (λ y. m ≡ Ok y) (λ e. IsErrAnd m (P e)) → m ≡ Err f
      → (e : E) × (r ≡ Err e) × P e f
  err_before (Ok y) h e = absurd (cc)
  err_before (Err y) h e = (y, refl, rw e at h)
