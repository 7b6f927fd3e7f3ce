use Rattle.stamp_order.proofs.OneList.{one_merged}
use Rattle.stamp_order.proofs.law_one_merged.Goals as goal

pub returns : goal.returns
returns c = one_merged
