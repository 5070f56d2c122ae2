-- The demands, each from the crate of the definition that it speaks of.
use mathlib.Core.Path.{subst}
use native.Mathlib.Omega.{arith}
use Rattle.words.specs.Turn.{turned}
use Rattle.words.proofs.Turning.{turning, turns_ours, turns_only}
use Rattle.words.proofs.Standing.{is_some_way}
use Rattle.words.proofs.Overlaps.{overlaps_ours, overlaps_only}
use Rattle.words.proofs.FallBacks.{holds_ours, holds_only, falls_back_ours, falls_back_only}
use Rattle.words.proofs.Placing.{no_tie, finds_ours, finds_only}
use Rattle.words.proofs.Counting.{counts_ours, counts_only}
use Rattle.lists.specs.Outcome.{outcome}
use Rattle.lists.specs.Runs.{codes_in}
use Rattle.lists.proofs.Rules.{codes_checked, codes_only, names_checked, names_only}
use Rattle.grammar.proofs.Exactly.{meets_ours, meets_only}
use Rattle.grammar.proofs.Answers.{serves_ours, serves_only}
use Rattle.grammar.proofs.HandsOn.{hands_on}
use Rattle.grammar.proofs.Quoting.{writes_ours, writes_only}
use Rattle.grammar.proofs.RibbonFile.{takes_ours, takes_only}
use Rattle.joins.proofs.Ends.{always_allowed, always_end}
use Rattle.joins.proofs.Claims.{joiner_ours, joiner_only}
use Rattle.greedy.specs.Answers.{laid, LaysInto, lay_outcome}
use Rattle.greedy.proofs.Dropping.{keeper_ours, keeper_only}
use Rattle.greedy.proofs.Laying.{lays_twice}
use Rattle.greedy.proofs.Claims.{lays_ours, lays_only, each_laid, starred_lay}
use Rattle.greedy.proofs.Answers.{lays_out_ours, lays_out_only, laid_means}
use Rattle.layout.proofs.Calls.{demand_3_of_call}
use Rattle.greedy.proofs.Room.{ribbon_at_most, accepts}
use Rattle.sheets.proofs.Answers.{sheets_ours, sheets_only}
use Rattle.sheets.proofs.Room.{accepts as sheet-accepts}
use Rattle.sheets.proofs.ReadBack.{reads_back}
use Rattle.checking.proofs.Check.{misses_ours, misses_only}
use Rattle.checking.proofs.Answers.{checks_ours, checks_only}
use Rattle.programs.proofs.Prints.{ribbon_program_ours, ribbon_program_only, sheet_program_ours, sheet_program_only}
use Rattle.programs.proofs.Prints.{check_program_ours, check_program_only}
use Rattle.numbers.proofs.Numbers.{numbers}
use Rattle.ribbons.proofs.OfCalls.{passes_exactly, sheet_is_true}
use Rattle.ribbons.specs.Demands.{Pinned, NoFreedom, Demand3, Demands}

pinned : Pinned
pinned =
    record {
      turning = turns_ours;
      overlaps = overlaps_ours;
      passes = holds_ours;
      fall_backs = falls_back_ours;
      places = finds_ours turned;
      counts = counts_ours turned;
      codes = codes_checked;
      names = names_checked;
      files = meets_ours;
      ribbon_files = takes_ours;
      dropping = keeper_ours (is_some_way turned);
      joining = joiner_ours;
      ribbons = lays_ours turned;
      searching = misses_ours turned;
      reading = serves_ours;
      laying = lays_out_ours;
      checking = checks_ours;
      quoting = writes_ours;
      sheets = sheets_ours;
      ribbon_program = ribbon_program_ours;
      sheet_program = sheet_program_ours;
      check_program = check_program_ours;
      starred = starred_lay;
    }

no_freedom : NoFreedom
no_freedom =
    record {
      turning = turns_only;
      overlaps = overlaps_only;
      passes = holds_only;
      fall_backs = falls_back_only;
      places = finds_only turning;
      counts = counts_only;
      codes = codes_only;
      names = names_only;
      files = meets_only;
      ribbon_files = takes_only;
      dropping = keeper_only (is_some_way turned);
      joining = joiner_only;
      ribbons = λ cs ribbon saved x. lays_only turned x;
      searching = misses_only;
      reading = serves_only;
      laying = lays_out_only;
      checking = checks_only;
      quoting = writes_only;
      sheets = sheets_only;
      ribbon_program = ribbon_program_only;
      sheet_program = sheet_program_only;
      check_program = check_program_only;
    }

pub demand_3 : Demand3
demand_3 run ls buffer bands saved e rival on =
    let o = lay_outcome run ls buffer in
    let into : LaysInto run ls buffer (outcome (laid bands saved) o.after) =
    subst (λ a. LaysInto run ls buffer (outcome a o.after)) e (lays_out_ours run ls buffer) in
    let m = laid_means run ls buffer o.after bands saved into in
    m.at_most_twice _ rival (keeper_ours (is_some_way turned) (codes_in run ls)) on

pub all_demands : Demands
all_demands =
    record {
      pinned = pinned;
      no_freedom = no_freedom;
      accepted = λ run ls buffer ok room. accepts run ls buffer ok (omega (arith, ribbon_at_most run ls ok));
      accepted_sheet = λ run ls name_run name_ls buffer ok named room.
          sheet-accepts run ls name_run name_ls ok named buffer room;
      always_allowed = always_allowed;
      rounds_end = always_end;
      numbers = numbers;
      hands_on = hands_on;
      all_stand = λ cs. (each_laid turned turning cs).all_stand;
      adds_up = λ cs. (each_laid turned turning cs).adds_up;
      passes_exactly = passes_exactly;
      no_tie = λ turn t. no_tie t;
      sheet_is_true = sheet_is_true;
      reads_back = λ names codes ribbon sheet x printed banded. reads_back x printed banded;
      at_most_twice = demand_3;
      of_the_call = λ run ls before after laid p. demand_3_of_call p;
      any_ties = λ turn t cs ribbon saved l. lays_twice t l;
    }
