-- What each function promises: `exact` says what it does to any words, `inside`, `long` and `past` what any words leave certain,
-- `law` what it does to a forest.
-- Assumes nothing.
use Rattle.std.specs.Prelude.{Ok, Result, ◌≡◌, refl, ◌≢◌, List, [], ◌∷◌, ◌++◌, map, ℕ, zero, suc, ◌+◌, ◌≤◌, ◌<◌, length, get_or, set}
use Rattle.broken.specs.declared.Broken.{Broken}
use Rattle.broken.specs.Words.{broken}
use Rattle.std.proofs.Common.{sym, ◌∙◌, arith, length-set, get_or-set_other}
use Rattle.std.proofs.Math.Decide.{ℕ_discrete, dec_lt}
use Rattle.lists.specs.Reads.{at}
use Rattle.lists.specs.Relabel.{relabel}
use Rattle.lists.specs.Tests.{when, zero_one}
use Rattle.unionfind.specs.Words.{find_in, halve, Halved}
use Rattle.unionfind.specs.Forest.{Forest}
use Rattle.unionfind.specs.Sound.{find_sound, halve_sound}

-- ---- the promises

-- the new id is the number of ids before
pub record MakesSet (ps : List ℕ) (N : ℕ) (ps' : List ℕ) : Type 0 where
  pub exact : ps' ≡ set ps N N
  pub law : (C : ℕ) (R : List ℕ) → Forest ps N C R → Forest ps' (N + 1) (C + 1) (R ++ (N ∷ []))

pub record Finds (ps : List ℕ) (N id : ℕ) (r : Result ℕ Broken) : Type 0 where
  pub exact : r ≡ find_in ps N N id
  pub inside : (x : ℕ) → r ≡ Ok x → x < N
  pub law : (C : ℕ) (R : List ℕ) → Forest ps N C R → r ≡ Ok (get_or R id id)

pub record FindsMut (ps : List ℕ) (N id : ℕ) (r : Result ℕ Broken) (ps' : List ℕ) : Type 0 where
  pub exact : halve ps N N id ≡ record { answer = r; left = ps' }
  pub inside : (x : ℕ) → r ≡ Ok x → x < N
  pub long : length ps' ≡ length ps
  pub past : (i : ℕ) → N ≤ i → at ps' i ≡ at ps i
  pub law : (C : ℕ) (R : List ℕ) → Forest ps N C R → (r ≡ Ok (get_or R id id)) × Forest ps' N C R

pub record Unites (ps : List ℕ) (root1 root2 : ℕ) (ps' : List ℕ) : Type 0 where
  pub exact : ps' ≡ set ps root2 root1
  pub law : (N C D : ℕ) (R : List ℕ) → Forest ps N C R → C ≡ suc D → root1 < N → root2 < N → root1 ≢ root2
      → get_or R root1 root1 ≡ root1 → get_or R root2 root2 ≡ root2 → Forest ps' N D (map (relabel root1 root2) R)

-- ---- a root that is found is an id, on any words

find_inside : (ps : List ℕ) (N f i x : ℕ) → i < N → find_in ps N f i ≡ Ok x → x < N
unfolding find_in
find_inside ps N zero i x h e = zero_one cc
find_inside ps N (suc f) i x h e = go (ℕ_discrete (at ps i) i) (dec_lt (at ps i) N) (find_inside ps N f (at ps i) x) e
  where
    go : (d : Dec (at ps i ≡ i)) (l : Dec (at ps i < N)) → (at ps i < N → find_in ps N f (at ps i) ≡ Ok x → x < N)
        → when d (Ok i) (when l (find_in ps N f (at ps i)) broken) ≡ Ok x → x < N
    go (yes w) l ih e = let q : i ≡ x = cc in omega arith
    go (no n) (yes l) ih e = ih l e
    go (no n) (no l) ih e = zero_one cc

record Fair (ps : List ℕ) (N : ℕ) (o : Halved) : Type 0 where
  low : (x : ℕ) → o.answer ≡ Ok x → x < N
  size : length o.left ≡ length ps
  rest : (j : ℕ) → N ≤ j → at o.left j ≡ at ps j

halve_fair : (f : ℕ) (ps : List ℕ) (N i : ℕ) → i < N → Fair ps N (halve ps N f i)
unfolding halve
halve_fair zero ps N i h = record {
  low = λ x e. zero_one cc;
  size = refl;
  rest = λ j l. refl;
}
halve_fair (suc f) ps N i h = go (ℕ_discrete (at ps i) i) (dec_lt (at ps i) N) (dec_lt g N) (halve_fair f (set ps i g) N g)
  where
    g : ℕ
    g = at ps (at ps i)

    lost : Halved
    lost = record { answer = broken; left = ps }

    stopped : Fair ps N lost
    stopped = record { low = λ x e. zero_one cc; size = refl; rest = λ j l. refl }

    stored : Fair (set ps i g) N (halve (set ps i g) N f g) → Fair ps N (halve (set ps i g) N f g)
    stored m = record {
      low = m.low;
      size = m.size ∙ length-set ps i g;
      rest = λ j l. m.rest j l ∙ get_or-set_other ps i j g 0 (omega arith);
    }

    go : (d : Dec (at ps i ≡ i)) (l : Dec (at ps i < N)) (m : Dec (g < N)) → (g < N → Fair (set ps i g) N (halve (set ps i g) N f g))
        → Fair ps N (when d (record { answer = Ok i; left = ps }) (when l (when m (halve (set ps i g) N f g) lost) lost))
    go (yes w) l m ih = record { low = λ x e. let q : i ≡ x = cc in omega arith; size = refl; rest = λ j l. refl }
    go (no n) (yes l) (yes m) ih = stored (ih m)
    go (no n) (yes l) (no m) ih = stopped
    go (no n) (no l) m ih = stopped

-- ---- the promises from what the code computes

pub finds : (ps : List ℕ) (N id : ℕ) (r : Result ℕ Broken) → id < N → r ≡ find_in ps N N id → Finds ps N id r
finds ps N id r h e = record {
  exact = e;
  inside = λ x f. find_inside ps N N id x h (sym e ∙ f);
  law = λ C R F. e ∙ find_sound F id h;
}

pub finds_mut : (ps : List ℕ) (N id : ℕ) (r : Result ℕ Broken) (ps' : List ℕ) → id < N → halve ps N N id ≡ record { answer = r; left = ps' } → FindsMut ps N id r ps'
finds_mut ps N id r ps' h e =
    let m : Fair ps N (record { answer = r; left = ps' }) = rw e at (halve_fair N ps N id h) in
    record {
      exact = e;
      inside = m.low;
      long = m.size;
      past = m.rest;
      law = λ C R F. let s = rw e at (halve_sound F id h) in (s.answers, s.keeps);
    }
