-- A list's last accepted append, cut short: every reading call answers as on the file that it got.
-- Assumes nothing.
use Prim.Native.Nat.{ℕ, ◌+◌, ◌-◌, ◌^◌, ◌≤◌, ◌<◌}
use Rattle.std.specs.Prelude.{◌≡◌, Bool, List, [], ◌∷◌, take, get_or}
use Rattle.std.proofs.Math.Path.{refl, ap, ap₂}
use Rattle.std.proofs.Common.{sym, ◌∙◌, arith, length-take-le}
use Rattle.std.proofs.Math.Bool.{true, false, cond}
use Rattle.std.proofs.Math.Option.{Option, none, some}
use Rattle.std.proofs.Math.Dec.{ltb}
use Rattle.std.proofs.Math.ListN.{length, length-take, length-append}
use Rattle.std.proofs.Math.Seq.{take-take}
use borrow.Author.Tests.{le-leb, lt-ltb, le-ltb, ltb-false}
use Rattle.answers.specs.limits.Limits.{max_file}
use Rattle.answers.specs.Answer.{Answer, Accepted, Refusal}
use Rattle.segment.specs.chain.Chain.{Found}
use Rattle.segment.specs.Header.{Link}
use Rattle.segment.proofs.Laws.{size_least}
use Rattle.manifest.specs.Opening.{opened, found_case, opened_answer}
use Rattle.manifest.proofs.OpeningLaws.{open_within, answers_alike}
use Rattle.manifest.specs.Directory.{entry_in, entry_case}
use Rattle.std.specs.Prelude.{Ok, Err}
use Rattle.reading.specs.Answers.{NotHanded, part_found, part_in, Bad, hit_found, hit_in, vector_hit, buffer_hit, vector_case, vector_after, value_hit, value_in}
use Rattle.reading.specs.Listing.{max_listed, list_with}
use Rattle.compacting.specs.Compact.{compact_found, compact_case, buffer_found, compact_buffer}
use Rattle.batch.specs.Form.{bodies_of}
use Rattle.appending.specs.Append.{start_of, new_end, new_bytes, checked, is_none, append_checks, answer_on, append_answer, Appends, Holds}
use Rattle.appending.proofs.Opens.{kept, cut_file, new_length}
use Rattle.appending.proofs.Buffer.{start_inside, open_cut, AppendedBy, appended, answer_is, some_new}
use Rattle.claim.specs.Demand3.{Call, file_after, Run, stop, call, or_before, last_accepted, without_tried, Alike, LastAppend, cut_at}
use Rattle.claim.proofs.Reports.{refused_run}

-- ---- answers alike

tried_apart : (f g : List ℕ) (o : Option (Found Link)) → without_tried (opened_answer (Ok (found_case f o))) ≡ without_tried (opened_answer (Ok (found_case g o)))
unfolding without_tried opened_answer found_case
tried_apart f g none = refl
tried_apart f g (some r) = refl

-- the lister's text goes by what opening finds and by the number in the place of the boundaries tried
listed_alike : (f g : List ℕ) → length f ≤ max_listed → length g ≤ max_listed → (t : ℕ) → opened f ≡ opened g → list_with t f ≡ list_with t g
unfolding list_with
listed_alike f g h k t e = rw (le-leb (length f) max_listed h, le-leb (length g) max_listed k, e)

-- all of them are functions of what opening finds
pub alike : (f g : List ℕ) → length f ≤ max_file → length g ≤ max_file → opened f ≡ opened g → Alike f g
unfolding entry_case part_in vector_case vector_after value_in hit_in compact_case compact_buffer
alike f g h k e =
    let hit : (id : ℕ) → hit_in f id ≡ hit_in g id = λ id. answers_alike (Bad 1) (hit_found id) f g h k e in
    record {
      opening =
          ap without_tried (open_within f h ∙ ap (λ (o : Option (Found Link)). opened_answer (Ok (found_case f o))) e)
          ∙ tried_apart f g (opened g)
          ∙ ap without_tried (sym (open_within g k));
      entry = λ i. answers_alike (Err 1) (entry_in i) f g h k e;
      payload = λ id. answers_alike (NotHanded 1) (part_found id) f g h k e;
      vector = λ id buf. ap (vector_hit buf) (hit id);
      buffer = λ id buf. ap (buffer_hit buf) (hit id);
      component = λ id i. ap (value_hit i) (hit id);
      compaction = λ buf. answers_alike (Err 1) (compact_found buf) f g h k e;
      written = λ buf. answers_alike buf (buffer_found buf) f g h k e;
      listing = λ p q t. listed_alike f g p q t e;
    }

-- ---- the cut

module _ {f₀ g : List ℕ} {cs : List Call} (l : LastAppend f₀ cs g) where
  abbrev f : List ℕ
  f = l.got

  w : AppendedBy f l.old l.batch l.retiring l.timestamp l.values l.new
  w = appended f l.old l.batch l.retiring l.timestamp l.holds l.values l.new l.appends

  end_is : get_or l.values 0 0 ≡ new_end (opened f) (bodies_of l.batch)
  end_is = ap (λ (x : List ℕ). get_or x 0 0) w.values

  file-is : g ≡ take (get_or l.values 0 0) l.new
  file-is = refused_run l.then l.refused

  module _ (k : ℕ) (h : k < get_or l.values 0 0 - start_of (opened f)) where
    bytes-length : start_of (opened f) + length (new_bytes (opened f) (bodies_of l.batch) l.retiring l.timestamp) ≡ new_end (opened f) (bodies_of l.batch)
    bytes-length = new_length (opened f) (kept f) (bodies_of l.batch) l.retiring l.timestamp

    below : k < length (new_bytes (opened f) (bodies_of l.batch) l.retiring l.timestamp)
    below = omega (arith, end_is, bytes-length)

    cut-is : cut_at f g k ≡ cut_file f (bodies_of l.batch) l.retiring l.timestamp k
    unfolding cut_at
    cut-is =
        ap (take (start_of (opened f) + k)) file-is
        ∙ take-take (start_of (opened f) + k) (get_or l.values 0 0) l.new (omega arith)
        ∙ some_new f l.old l.batch l.retiring l.timestamp l.values l.new w k (omega (arith, below))

    cut-opens : opened (cut_at f g k) ≡ opened f
    cut-opens = ap opened cut-is ∙ open_cut f (length l.old) (length f) l.batch l.retiring l.timestamp l.fits w.fits k below

    cut_fits : length (cut_at f g k) ≤ max_file
    unfolding cut_at
    cut_fits = omega (arith, length-take (start_of (opened f) + k) g, end_is, w.fits.end_limit)

    -- every reading call answers on the cut file as on the file that the last accepted append got
    pub cut_alike : Alike (cut_at f g k) f
    cut_alike = alike (cut_at f g k) f cut_fits w.fits.in_limit cut-opens

    -- '(Where the start was 0 and k is above 0, appending to it answers 2.)', and 9 where the buffer is shorter than the cut file
    start_none : start_of (opened f) ≡ 0 → opened f ≡ none
    unfolding start_of
    start_none e = go (opened f) e
      where
        go : (o : Option (Found Link)) → start_of o ≡ 0 → o ≡ none
        go none q = refl
        go (some r) q = absurd (let s = size_least r.link in omega arith)

    cut-length : length (cut_at f g k) ≡ start_of (opened f) + k
    unfolding cut_file
    cut-length =
        let bytes = new_bytes (opened f) (bodies_of l.batch) l.retiring l.timestamp in
        ap length cut-is
        ∙ length-append (take (start_of (opened f)) f) (take k bytes)
        ∙ ap₂ ◌+◌ (length-take-le (start_of (opened f)) f (start_inside f)) (length-take-le k bytes (omega (arith, below)))

    first-tests : (room n : ℕ) (batch ids : List ℕ) → n ≤ max_file → 0 < n → answer_on room n none batch ids ≡ cond (ltb room n) (Refusal 9 []) (Refusal 2 [])
    unfolding answer_on append_checks checked is_none
    first-tests room n batch ids a b = rw (le-ltb max_file n a, lt-ltb 0 n b)

    pub cut_again : start_of (opened f) ≡ 0 → 0 < k → (old batch ids : List ℕ) → Holds old (cut_at f g k)
        → append_answer old (length (cut_at f g k)) batch ids ≡ cond (ltb (length old) (length (cut_at f g k))) (Refusal 9 []) (Refusal 2 [])
    unfolding append_answer answer_on append_checks checked
    cut_again e p old batch ids hold = go (ltb (length old) (length (cut_at f g k))) refl
      where
        go : (t : Bool) → ltb (length old) (length (cut_at f g k)) ≡ t
            → append_answer old (length (cut_at f g k)) batch ids ≡ cond (ltb (length old) (length (cut_at f g k))) (Refusal 9 []) (Refusal 2 [])
        go true q = rw q
        go false q =
            let c = cut_at f g k in
            let in_buffer : length (cut_at f g k) ≤ length old = ltb-false (length old) (length (cut_at f g k)) q in
            answer_is (cut_at f g k) old batch ids 0 hold in_buffer
            ∙ ap (λ (o : Option (Found Link)). answer_on (length old) (length (cut_at f g k)) o batch ids) (cut-opens ∙ start_none e)
            ∙ first-tests (length old) (length (cut_at f g k)) batch ids cut_fits (omega (arith, cut-length))

-- ---- every list with an accepted append has a last one

pub last_append : {f₀ g : List ℕ} {cs : List Call} → Run f₀ cs g → (a : Answer) → last_accepted cs ≡ some a → LastAppend f₀ cs g
unfolding last_accepted or_before file_after
last_append stop a e = absurd (let w : ◌≡◌ {A = ℕ} 0 1 = cc in omega arith)
last_append (call {f = f} {g = g} {old = old} {new = new} {batch = batch} {ids = ids} {ts = ts} {answer = answer} {cs = cs} h t p r) a e =
    go (last_accepted cs) refl answer h t p r e (λ z. last_append r a z)
  where
    go : (o : Option Answer) → last_accepted cs ≡ o → (answer : Answer) → Holds old f → ts < 2 ^ 64 → Appends old (length f) batch ids ts answer new
        → Run (file_after f new answer) cs g → or_before o answer ≡ some a
        → (last_accepted cs ≡ some a → LastAppend (file_after f new answer) cs g)
        → LastAppend f (record { batch = batch; retiring = ids; timestamp = ts; answer = answer } ∷ cs) g
    go (some b) q answer h t p r z ih =
        let d = ih (q ∙ z) in
        let c : Call = record { batch = batch; retiring = ids; timestamp = ts; answer = answer } in
        record {
          earlier = c ∷ d.earlier;
          got = d.got;
          run = call h t p d.run;
          old = d.old;
          new = d.new;
          batch = d.batch;
          retiring = d.retiring;
          timestamp = d.timestamp;
          values = d.values;
          holds = d.holds;
          fits = d.fits;
          appends = d.appends;
          later = d.later;
          then = d.then;
          refused = d.refused;
          split = ap (λ (xs : List Call). record { batch = batch; retiring = ids; timestamp = ts; answer = answer } ∷ xs) d.split;
        }
    go none q (Accepted vs) h t p r z ih =
        record {
          earlier = [];
          got = f;
          run = stop;
          old = old;
          new = new;
          batch = batch;
          retiring = ids;
          timestamp = ts;
          values = vs;
          holds = h;
          fits = t;
          appends = p;
          later = cs;
          then = r;
          refused = q;
          split = refl;
        }
    go none q (Refusal n vs) h t p r z ih = absurd (let w : ◌≡◌ {A = ℕ} 0 1 = cc in omega arith)
