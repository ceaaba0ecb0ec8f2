-- What is known of an input that the vector writer accepts.
-- Assumes nothing.
use Rattle.std.specs.Prelude.{ℕ, ◌*◌, ◌≤◌, ◌<◌, ◌≡◌, refl, List, length, Bool, true, false, cond, ◌&&◌, ◌||◌, eqb, leb, ltb}
use Rattle.idmap.specs.Encode.{map_bad}
use Rattle.vecseg.specs.Payload.{width}
use Rattle.std.proofs.Common.{arith, leb-true, ltb-true, eqb-true}
use Rattle.answers.specs.limits.Limits.{max_dim}
use Rattle.octets.proofs.ZeroLaws.{and_split}
use Rattle.idmap.proofs.Accepted.{good}
use Rattle.vecseg.specs.Writer.{vec_bad}

-- ---- accepted

pub record WriterAccepts (ids columns : List ℕ) (dim dtype tier encoding interval : ℕ) : Type 0 where
  pub held : 0 < width dtype
  pub low : 1 ≤ dim
  pub high : dim ≤ 1024
  pub byte : tier < 256
  pub fits : length columns ≡ length ids * dim * width dtype
  pub map : map_bad ids encoding interval ≡ 0
  pub most : length ids ≤ 4096

pub accepted : (ids columns : List ℕ) (dim dtype tier encoding interval : ℕ) → vec_bad ids columns dim dtype tier encoding interval ≡ 0
    → WriterAccepts ids columns dim dtype tier encoding interval
unfolding vec_bad
accepted ids columns dim dtype tier encoding interval ok =
    pick (ltb 0 (width dtype) && leb 1 dim && leb dim max_dim && ltb tier 256 && eqb (length columns) (length ids * dim * width dtype)) refl ok
  where
    pick : (t : Bool) → ltb 0 (width dtype) && leb 1 dim && leb dim max_dim && ltb tier 256 && eqb (length columns) (length ids * dim * width dtype) ≡ t
        → cond t (map_bad ids encoding interval) 14 ≡ 0 → WriterAccepts ids columns dim dtype tier encoding interval
    pick false p q = absurd (let z : ◌≡◌ {A = ℕ} 14 0 = q in omega arith)
    pick true p q =
        let a = and_split _ _ p in
        let b = and_split _ _ a.0 in
        let d = and_split _ _ b.0 in
        let e = and_split _ _ d.0 in
        record {
          held = ltb-true 0 (width dtype) e.0;
          low = leb-true 1 dim e.1;
          high = leb-true dim 1024 d.1;
          byte = ltb-true tier 256 b.1;
          fits = eqb-true (length columns) (length ids * dim * width dtype) a.1;
          map = q;
          most = (good ids encoding interval q).most;
        }

-- a dtype that is held fits its byte
pub held_small : (dtype : ℕ) → 0 < width dtype → dtype < 256
unfolding width
held_small dtype = pick (eqb dtype 0) (eqb dtype 3) (eqb dtype 4) refl refl refl
  where
    pick : (t u v : Bool) → eqb dtype 0 ≡ t → eqb dtype 3 ≡ u → eqb dtype 4 ≡ v → 0 < cond t 4 (cond (u || v) 1 0) → dtype < 256
    pick true u v p q r h = omega (arith, eqb-true dtype 0 p)
    pick false true v p q r h = omega (arith, eqb-true dtype 3 q)
    pick false false true p q r h = omega (arith, eqb-true dtype 4 r)
    pick false false false p q r h = absurd (omega arith)
