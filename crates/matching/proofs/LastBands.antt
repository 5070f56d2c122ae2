-- The last bands of a turned word are the first of the word.
use Rattle.std.proofs.Common.{◌≡◌, List, ℕ, ◌++◌, ◌-◌, ◌≤◌, length, take, drop, sym, arith, ◌∙◌, ap, length-drop}
use Rattle.std.proofs.lemmas.List.{take-append-drop}
use lib.Seq.{drop_at}
use Rattle.words.specs.Turn.{turned}
use Rattle.words.proofs.Turning.{turning}

pub turned_last : (c : List ℕ) (k : ℕ) → k ≤ length c → turned (take k c) ≡ drop (length (turned c) - k) (turned c)
turned_last c k l =
    let e : turned c ≡ turned (drop k c) ++ turned (take k c) =
    ap turned (sym (take-append-drop k c)) ∙ turning.parts (take k c) (drop k c) in
    let n : length (turned (drop k c)) ≡ length (turned c) - k =
    omega (arith, turning.as_long (drop k c), turning.as_long c, length-drop k c) in
    sym (ap (drop (length (turned c) - k)) e ∙ drop_at (turned (drop k c)) (turned (take k c)) (length (turned c) - k) n)
