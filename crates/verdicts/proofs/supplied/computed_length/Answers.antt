-- `supplied::computed_length`: 8,192 bands suffice for any ribbon, so a fit list is laid out, and the answer's length is its.
use Rattle.std.proofs.Common.{rules}
use Rattle.verdicts.proofs.Calls.{is_laid}
use Rattle.verdicts.proofs.supplied.computed_length.Goals as goal

pub unwrap-laid-requires : goal.unwrap-laid-requires
unwrap-laid-requires c =
    let list = c.args.list in
    is_laid list.codes.bytes.now list.codes.sizes.now _ list.fit (search rules) _ c.lay_ribbon.ensures
