-- A link with a head of fixed length that says how long the link is: the four laws of `Format`, from one.
-- Assumes nothing.
use Rattle.std.specs.Prelude.{◌≡◌, refl, Bool, true, false, cond, List, [], ◌++◌, ℕ, ◌≤◌, ◌<◌, leb, take}
use Rattle.std.proofs.Math.Path.{sym, ap}
use Rattle.std.proofs.Common.{◌∙◌, le_refl, lt_of_lt_of_le, lt_of_not-le, arith, length-append, take_at}
use Rattle.std.proofs.Math.Option.{Option, none, some, some-ne-none}
use Rattle.std.proofs.Math.Decide.{dec_le}
use Rattle.std.proofs.Math.ListN.{length}
use Rattle.std.proofs.Math.Seq.{length-take-le, take-take, take-length}
use borrow.Author.Tests.{leb-true, le-leb, lt-leb}
use Rattle.segment.specs.chain.Chain.{framed}
use Rattle.segment.proofs.chain.Laws.{Format}

-- what came through a test: the test, and what it guards
pub cond_some : {A : Type 0} (b : Bool) (x : Option A) (a : A) → cond b x none ≡ some a → (b ≡ true) × (x ≡ some a)
cond_some true x a e = (refl, e)
cond_some false x a e = absurd (some-ne-none a (sym e))

module _ {S L : Type 0} (head : ℕ) (size_at : List ℕ → ℕ) (read : S → List ℕ → Option L) where
  -- bytes of just the length that their head says
  pub framed_whole : (st : S) (x : List ℕ) → head ≤ length x → size_at (take head x) ≡ length x → framed head size_at read st x ≡ read st x
  unfolding framed
  framed_whole st x h z = rw (le-leb head (length x) h, z, le-leb (length x) (length x) (le_refl (length x)), take-length x)

  module _ (size : L → ℕ) (after : S → L → S) (head-pos : 0 < head) (head-le : (h : List ℕ) → head ≤ size_at h)
      (size_is : (st : S) (x : List ℕ) (l : L) → length x ≡ size_at (take head x) → read st x ≡ some l → size l ≡ size_at (take head x)) where
    -- what is known of a link at the front of some bytes
    pub record Framed (st : S) (s : List ℕ) (l : L) : Type 0 where
      pub fits : size l ≤ length s
      pub size_at_is : size l ≡ size_at (take head s)
      pub reads : read st (take (size l) s) ≡ some l

    pub framed_is : {st : S} {s : List ℕ} {l : L} → framed head size_at read st s ≡ some l → Framed st s l
    unfolding framed
    framed_is {st} {s} {l} e =
        let a = cond_some (leb head (length s)) _ l e in
        let b = cond_some (leb (size_at (take head s)) (length s)) _ l a.1 in
        let n : size_at (take head s) ≤ length s = leb-true _ _ b.0 in
        let h : size_at (take head (take (size_at (take head s)) s)) ≡ size_at (take head s) =
        ap size_at (take-take head (size_at (take head s)) s (head-le (take head s))) in
        let z : size l ≡ size_at (take head s) = size_is st _ l (length-take-le _ s n ∙ sym h) b.1 ∙ h in
        record { fits = omega arith; size_at_is = z; reads = rw z b.1 }

    pub framed_size : (st : S) (s : List ℕ) (l : L) → framed head size_at read st s ≡ some l → size l ≡ size_at (take head s)
    framed_size st s l e = let p : Framed st s l = framed_is e in p.size_at_is

    -- bytes whose first ones are those of a link
    starts : {st : S} {s : List ℕ} {l : L} → Framed st s l → (t : List ℕ) → size l ≤ length t → take (size l) t ≡ take (size l) s → framed head size_at read st t ≡ some l
    unfolding framed
    starts {st} {s} {l} p t h q =
        let hl : head ≤ size l = rw p.size_at_is (head-le (take head s)) in
        let z : size_at (take head t) ≡ size l =
        ap size_at (sym (take-take head (size l) t hl) ∙ ap (take head) q ∙ take-take head (size l) s hl) ∙ sym p.size_at_is in
        rw (le-leb head (length t) (omega arith), z, le-leb (size l) (length t) h, q) p.reads

    -- fewer bytes than the link has
    cut : {st : S} {s : List ℕ} {l : L} → Framed st s l → (k : ℕ) → k < size l → framed head size_at read st (take k s) ≡ none
    unfolding framed
    cut {st} {s} {l} p k h =
        let n : length (take k s) ≡ k = let f : size l ≤ length s = p.fits in length-take-le k s (omega arith) in
        go (dec_le head k) n
      where
        go : Dec (head ≤ k) → length (take k s) ≡ k → framed head size_at read st (take k s) ≡ none
        go (no q) n = rw (n, lt-leb head k (lt_of_not-le q))
        go (yes q) n = rw (n, le-leb head k q, take-take head k s q, ← p.size_at_is, lt-leb (size l) k h)

    none-at-end : (st : S) → framed head size_at read st [] ≡ none
    unfolding framed
    none-at-end st = rw (lt-leb head 0 head-pos)

    pub framed_format : Format (record { link_at = framed head size_at read; size = size; after = after })
    framed_format =
        record {
          empty = none-at-end;
          size_pos = λ {st} {s} {l} e. let p : Framed st s l = framed_is e in rw p.size_at_is (lt_of_lt_of_le head-pos (head-le (take head s)));
          size_fits = λ e. (framed_is e).fits;
          local = λ {st} {s} {l} e r.
              let n : length (take (size l) s) ≡ size l = length-take-le (size l) s (framed_is e).fits in
              starts (framed_is e) (take (size l) s ++ r) (simp length-append (omega arith)) (take_at (take (size l) s) r (size l) n);
          short = λ e k h. cut (framed_is e) k h;
        }
