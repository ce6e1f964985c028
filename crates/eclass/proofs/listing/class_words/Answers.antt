use mathlib.Core.Path.{◌∙◌}
use native.Mathlib.Omega.{arith}
use Rattle.layout.specs.Seen.{seen}
use Rattle.eclass.specs.ClassWalk.{walk_low}
use Rattle.eclass.specs.Lists.{long_end, long_more, long_next, long_room, long_start}
use Rattle.eclass.proofs.listing.class_words.Goals as goal

pub loop-id-init : goal.loop-id-init
loop-id-init c = let e = c.into_iter-id-iterator.ensures.into_iter_gives ∙ c.of_class-id-items.ensures.all in (omega (arith, long_room (seen c.args.classes.now.g).members (seen c.args.classes.now.g).rows c.args.classes.now.g.h.n c.args.classes.now.g.h.m c.args.r.0 _ e), long_start _ _ _ _ _ _ e)

pub id_words-total-requires : goal.id_words-total-requires
id_words-total-requires c = omega (arith, c.args.classes.now.g.ok.ids_in, walk_low _ _ _ _ _ _ c.in-Some.ensures.steps _ _ _ _ (c.args.classes.now.unbroken.fine c.args.r.0 c.requires) c.loop-id.invariant.1)

pub overflow_add-total : goal.overflow_add-total
overflow_add-total c = omega (arith, long_more (seen c.args.classes.now.g).members (seen c.args.classes.now.g).rows c.args.classes.now.g.h.n c.args.classes.now.g.h.m c.args.r.0 _ _ _ _ _ _ c.in-Some.ensures.steps c.id_words-total.ensures c.loop-id.invariant.0, long_room (seen c.args.classes.now.g).members (seen c.args.classes.now.g).rows c.args.classes.now.g.h.n c.args.classes.now.g.h.m c.args.r.0 _ c.of_class-id-items.ensures.all, c.of_class-id-items.ensures.few)

pub loop-id-preserved : goal.loop-id-preserved
loop-id-preserved c = (long_more (seen c.args.classes.now.g).members (seen c.args.classes.now.g).rows c.args.classes.now.g.h.n c.args.classes.now.g.h.m c.args.r.0 _ _ _ _ _ _ c.in-Some.ensures.steps c.id_words-total.ensures c.loop-id.invariant.0, long_next _ _ _ _ _ _ _ _ _ _ c.in-Some.ensures.steps c.id_words-total.ensures c.loop-id.invariant.1)

pub returns : goal.returns
returns c = (long_end _ _ _ _ _ _ _ c.in-None.ensures.steps.0 c.loop-id.invariant.0 c.loop-id.invariant.1, omega (arith, c.loop-id.invariant.0, long_room (seen c.args.classes.now.g).members (seen c.args.classes.now.g).rows c.args.classes.now.g.h.n c.args.classes.now.g.h.m c.args.r.0 _ c.of_class-id-items.ensures.all, c.of_class-id-items.ensures.few))
