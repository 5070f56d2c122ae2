-- `records::find_nth`: the code is the item of its number, and the record that is made tells its place.
use Rattle.std.proofs.Common.{◌≡◌, refl, option_copied}
use Rattle.std.proofs.lemmas.Iterator.Consumers.{nth_from_yields_List, YieldsList-from_first}
use Rattle.std.specs.List.{slice_get}
use Rattle.lists.specs.Handed.{words_of}
use Rattle.places.proofs.One.{few, nth_there, nth_size, one_starts}
use Rattle.places.proofs.records.find_nth.Goals as goal
use Rattle.places.proofs.records.find_nth.Goals.{After-nth}

-- what `nth` gives is item i

item : (c : After-nth) → option_copied c.nth.result ≡ slice_get (words_of c.args.list.codes) c.args.i
item c = nth_from_yields_List c.nth.result c.nth.new.self c.args.i c.nth.ensures.ran (YieldsList-from_first (λ w. w.now) words_of {s = c.args.list.codes} _ refl)

pub unwrap-code-requires : goal.unwrap-code-requires
unwrap-code-requires c = nth_there c.requires _ (item c)

pub find_place-requires : goal.find_place-requires
find_place-requires c = nth_size c.requires _ (item (goal.at.find_place-requires c).After-nth) c.unwrap-code.ensures

pub record_of-requires : goal.record_of-requires
record_of-requires c =
    let s = one_starts c.requires _ (item (goal.at.record_of-requires c).After-nth) c.unwrap-code.ensures _ c.find_place.ensures in
    (rw c.unwrap.ensures at s, few c.requires)
