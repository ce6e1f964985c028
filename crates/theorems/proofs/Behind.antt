-- Behind words that a run of calls can have left stands a graph: each call keeps it so (specs, Behind), hence every run.
-- Assumes nothing.
use Rattle.std.specs.Prelude.{List, ℕ}
use Rattle.std.proofs.Common.{subst}
use Rattle.language.specs.Struct.{node_of}
use Rattle.steps.specs.Graph.{Graph}
use Rattle.steps.specs.Machine
use Rattle.theorems.specs.Behind.{Behind, add_ids, leads_one, led_adding, led_rebuild, led_setup, led_union, setup_stays, stays, uncanonical_ids}
use Rattle.theorems.specs.Reached.{Call, Leads, Reached}

pub reached : {n m : ℕ} {cs : List Call} {ws : List ℕ} → Reached n m cs ws → (g : Graph) × Leads cs g × Behind n m cs ws g
reached {n} {m} (Reached.setup_done ws ws' s) = led_setup n m ws ws' s
reached (Reached.setup_not {ws = ws} R n' m' q ws' s) = stays (reached R) (setup_stays n' m' q ws ws' s)
reached (Reached.add R x r ws' s) = let l = reached R in led_adding l (λ g. (Machine.add g (node_of x)).id) x r ws' (add_ids l.2.run.made (node_of x)) s
reached (Reached.add_uncanonical R x r ws' s) = let l = reached R in led_adding l (λ g. (Machine.add_uncanonical g (node_of x)).id) x r ws' (uncanonical_ids l.2.run.made (node_of x)) s
reached (Reached.union R i j r ws' s) = led_union (reached R) i j r ws' s
reached (Reached.rebuild R r ws' s) = led_rebuild (reached R) r ws' s
reached (Reached.find_best_cost R i r ws' s) = stays (reached R) s.same
reached (Reached.find_best R i out r ws' out' s) = stays (reached R) s.same

-- of any graph that the accepted calls lead to
pub behind : {n m : ℕ} {cs : List Call} {ws : List ℕ} {g : Graph} → Reached n m cs ws → Leads cs g → Behind n m cs ws g
behind {n} {m} {cs} {ws} {g} R L = let l = reached R in subst (Behind n m cs ws) (leads_one cs l.0 g l.1 L) l.2
