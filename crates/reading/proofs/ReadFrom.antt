-- What is known at the level of the calls: of a vector that was read, and of a component. Its segment's hash and its blocks' checksums agree, and
-- every newer live segment is good too and does not hold the id.
-- Assumes nothing.
use Rattle.std.specs.Prelude.{ℕ, ◌≡◌, refl, List}
use Rattle.std.proofs.Math.Option.{Option, none, some}
use Rattle.std.proofs.Common.{arith}
use Rattle.segment.specs.chain.Chain.{Found}
use Rattle.segment.specs.Header.{Link}
use Rattle.manifest.specs.Opening.{opened}
use Rattle.vecseg.specs.Find.{Place}
use Rattle.std.specs.Prelude.{Ok}
use Rattle.reading.specs.Live.{search_order}
use Rattle.reading.specs.Answers.{Hit, Held, Missing, Bad, hit_found, hit_in, vector_hit, vector_case, Stored, value_hit, value_in}
use Rattle.reading.specs.Read.{ReadFrom}
use Rattle.reading.proofs.Laws.{answered}
use Rattle.reading.proofs.Placed.{at_found}

from_hit : (f : List ℕ) (id : ℕ) (l : Link) (p : Place) → hit_in f id ≡ Held l p → ReadFrom f id
unfolding hit_in hit_found
from_hit f id l p e = go (opened f) refl (at_found (Bad 1) (Held l p) (hit_found id) f (λ q. let z : ◌≡◌ {A = ℕ} 0 1 = cc in omega arith) e)
  where
    go : (o : Option (Found Link)) → opened f ≡ o → hit_found id o ≡ Held l p → ReadFrom f id
    go none h q = absurd (let z : ◌≡◌ {A = ℕ} 0 1 = cc in omega arith)
    go (some r) h q = record { found = r; opens = h; link = l; place = p; search = answered id (search_order r) l p q }

-- 'No vector leaves unless its segment hash and block check agree', of the vector call
pub vector_read : (f : List ℕ) (id : ℕ) (buf : List ℕ) (dim dtype n : ℕ) → vector_case f id buf ≡ Ok (record { dim = dim; dtype = dtype; length = n }) → ReadFrom f id
unfolding vector_case vector_hit
vector_read f id buf dim dtype n e = go (hit_in f id) refl e
  where
    go : (h : Hit) → hit_in f id ≡ h → vector_hit buf h ≡ Ok (record { dim = dim; dtype = dtype; length = n }) → ReadFrom f id
    go (Held l p) h q = from_hit f id l p h
    go Missing h q = absurd (let z : ◌≡◌ {A = ℕ} 0 1 = cc in omega arith)
    go (Bad m) h q = absurd (let z : ◌≡◌ {A = ℕ} 0 1 = cc in omega arith)

-- and of the component call
pub component_read : (f : List ℕ) (id i dtype : ℕ) (bytes : List ℕ) → value_in f id i ≡ Stored dtype bytes → ReadFrom f id
unfolding value_in value_hit
component_read f id i dtype bytes e = go (hit_in f id) refl e
  where
    go : (h : Hit) → hit_in f id ≡ h → value_hit i h ≡ Stored dtype bytes → ReadFrom f id
    go (Held l p) h q = from_hit f id l p h
    go Missing h q = absurd (let z : ◌≡◌ {A = ℕ} 0 1 = cc in omega arith)
    go (Bad m) h q = absurd (let z : ◌≡◌ {A = ℕ} 0 1 = cc in omega arith)
