use Rattle.std.proofs.Common.{ap}
use Rattle.broken.specs.Words.{error_is}
use Rattle.uniting.specs.Says.{united}
use Rattle.egraph.specs.Unions.{union_broken, union_done}
use Rattle.egraph.proofs.unions.union_open.Goals as goal

pub returns-in_err-joined-clause-says : goal.returns-in_err-joined-clause-says
returns-in_err-joined-clause-says c = rw (error_is _ _ c.from_residual.ensures.1) (union_broken _ _ c.requires.head_is _ _ _ _ c.unite.ensures.says (ap (united _) c.in_err-joined.was))

pub returns-clause-says : goal.returns-clause-says
returns-clause-says c = union_done _ _ c.requires.head_is _ _ _ _ c.unite.ensures.says _ _ (ap (united _) c.in_ok-joined.was) _ c.note_head.ensures.did
