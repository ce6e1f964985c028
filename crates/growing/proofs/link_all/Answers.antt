use mathlib.Core.Path.{refl}
use Rattle.broken.specs.Words.{is_broken}
use Rattle.language.specs.Children.{kid_is, many_kids}
use Rattle.language.specs.Fitting.{term}
use native.Mathlib.Omega.{arith}
use Rattle.layout.specs.Did.{did_as, did_none, did_then}
use Rattle.growing.specs.Link.{links_all, links_broken, links_more, links_none}
use Rattle.growing.proofs.link_all.Goals as goal

pub loop-j-init : goal.loop-j-init
loop-j-init c = did_none (links_none _ _ _ _)

pub link_one-requires : goal.link_one-requires
link_one-requires c = let x = c.args.key in
    let e = c.children-root-items.ensures in
    let j = c.loop-j.j in
    let m = many_kids (term x) c.children-root-items.result.now e in
    let k = kid_is (term x) c.children-root-items.result.now e j in
    let b = c.requires.by_index j (omega arith) in
    let h = c.loop-j.invariant.head in rw h (omega arith, omega arith)

pub returns-in_err-link_one : goal.returns-in_err-link_one
returns-in_err-link_one c = let x = c.args.key in
    let e = c.children-root-items.ensures in
    let m = many_kids (term x) c.children-root-items.result.now e in
    let a = c.loop-j.invariant in
    let b = c.link_one.ensures in
    let k = links_more _ _ _ _ _ _ _ _ _ _ _ a.did (omega arith) (omega arith) refl (kid_is (term x) _ e c.loop-j.j) (rw a.head at b.did) in
    rw (is_broken _ c.from_residual.ensures.0) (did_then a b (links_broken _ _ _ _ _ _ _ _ k c.in_err-link_one.was))

pub loop-j-preserved : goal.loop-j-preserved
loop-j-preserved c = let x = c.args.key in
    let e = c.children-root-items.ensures in
    let m = many_kids (term x) c.children-root-items.result.now e in
    let a = c.loop-j.invariant in
    let b = c.link_one.ensures in
    let k = links_more _ _ _ _ _ _ _ _ _ _ _ a.did (omega arith) (omega arith) refl (kid_is (term x) _ e c.loop-j.j) (rw a.head at b.did) in
    did_then a b (rw c.in_ok-link_one.was at k)

pub returns : goal.returns
returns c = let x = c.args.key in
    let m = many_kids (term x) c.children-root-items.result.now c.children-root-items.ensures in
    let a = c.loop-j.invariant in
    did_as a (links_all _ _ _ c.loop-j.j (term x).kids _ _ a.did (omega arith))
