-- A text put into a sink piece by piece: what is put so far and what is still to come are the whole. While there is room for
-- the whole, there is room for the next piece.
use Rattle.std.proofs.Common.{◌≡◌, ℕ, ◌+◌, List, [], ◌++◌, length, append_assoc, length-append, refl, sym, ap, ◌∙◌, arith}
use mathlib.Core.List.{append-nil}
use Rattle.fields.specs.Sinks.{Kind, Fits, Puts, SinkLaws}

-- another name for what is put
pub put_as : {S : Type 0} {k : Kind S} {s : S} {a b : List ℕ} {u : S} → b ≡ a → Puts k s a u → Puts k s b u
put_as {k = k} {s} e p =
    record {
      after_is = p.after_is ∙ ap (k.filled s) (sym e);
      taken_is = p.taken_is ∙ ap (λ (t : List ℕ). k.taken s + length t) (sym e);
      most_is = p.most_is;
    }

module _ {S : Type 0} {k : Kind S} (laws : SinkLaws k) {s : S} where
  pub none_put : Puts k s [] s
  none_put = record { after_is = sym (laws.none s); taken_is = omega arith; most_is = refl }

  pub both_put : {a b : List ℕ} {t u : S} → Fits k s a → Puts k s a t → Puts k t b u → Puts k s (a ++ b) u
  both_put {a} {b} h p q =
      record {
        after_is = q.after_is ∙ ap (λ (x : S). k.filled x b) p.after_is ∙ laws.both s a b h;
        taken_is = omega (arith, q.taken_is, p.taken_is, length-append a b);
        most_is = q.most_is ∙ p.most_is;
      }

pub record Partly {S : Type 0} (k : Kind S) (first : S) (whole : List ℕ) (now : S) (rest : List ℕ) : Type 0 where
  pub done : List ℕ
  pub whole_is : whole ≡ done ++ rest
  pub so_far : Puts k first done now
  pub room : Fits k first whole

module _ {S : Type 0} {k : Kind S} (laws : SinkLaws k) {first : S} {whole : List ℕ} where
  -- nothing so far
  pub none_yet : Fits k first whole → {rest : List ℕ} → whole ≡ rest → Partly k first whole first rest
  none_yet h e = record { done = []; whole_is = e; so_far = none_put laws; room = h }

  module _ {now : S} {rest : List ℕ} (p : Partly k first whole now rest) where
    sizes : length whole ≡ length p.done + length rest
    sizes = rw p.whole_is (length-append p.done rest)

    -- the next piece
    module _ (s rest' : List ℕ) (e : rest ≡ s ++ rest') where
      pub room_for : Fits k now s
      room_for =
          let l : length rest ≡ length s + length rest' = rw e (length-append s rest') in
          omega (arith, sizes, l, p.room, p.so_far.taken_is, p.so_far.most_is)

      pub and_then : {next : S} → Puts k now s next → Partly k first whole next rest'
      and_then q =
          record {
            done = p.done ++ s;
            whole_is = p.whole_is ∙ rw (e, append_assoc);
            so_far = both_put laws (omega (arith, sizes, p.room)) p.so_far q;
            room = p.room;
          }

    -- nothing more to come
    pub all_done : rest ≡ [] → Puts k first whole now
    all_done e = put_as (p.whole_is ∙ rw (e, append-nil)) p.so_far
