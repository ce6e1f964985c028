use Rattle.layout.specs.Did.{did_as}
use Rattle.extract.specs.Cost.{work_done}
use Rattle.extract.proofs.work_out.Goals as goal

pub returns : goal.returns
returns c = let class = c.price_class.ensures in did_as class (work_done _ _ _ _ _ class.did _ c.in_ok-priced.was)
