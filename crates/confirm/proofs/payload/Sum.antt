-- The laws of specs/payload/Sum.antt.
-- Assumes nothing.
use Prim.Native.Nat.{ℕ, ◌+◌, ◌*◌, ◌-◌, ◌^◌, ◌≤◌, ◌<◌}
use Rattle.std.specs.Prelude.{◌≡◌, refl, length, drop, replicate, get_or}
use Rattle.std.proofs.Math.Path.{sym, ap}
use Rattle.std.proofs.Common.{ap₂, subst, ◌∙◌, arith, lit<, length-append, take-append-drop, take_at, take-take, take_all, drop_at, drop-drop}
use mathlib.Core.List.{List, [], ◌∷◌, ◌++◌, append_assoc}
use Rattle.std.specs.Int.Bits.{bit_xor}
use Rattle.std.proofs.Math.ListN.{take}
use Rattle.octets.specs.Over.{over}
use Rattle.octets.proofs.OverLaws.{over_at, over_then}
use Rattle.octets.proofs.Parts.{tail_all}
use Rattle.octets.specs.Round.{round64}
use Rattle.octets.specs.le.Le.{Bytes, le_of, le_at, le_bytes}
use Rattle.octets.proofs.le.Laws.{length_le_bytes, le_of_le_bytes, bytes_take, bytes_drop}
use Rattle.crc32c.specs.Crc.{bit, crc_of}
use Rattle.crc32c.specs.Extend.{extended}
use Rattle.crc32c.proofs.ExtendLaws.{extended_first, extended_lt, crc_of_append}
use Rattle.crc32c.specs.Product.{product, digits}
use Rattle.crc32c.proofs.Product.{power, powers, powers_at, power_more}
use Rattle.crc_join.proofs.Join.{extended_zeros}
use Rattle.manifest.specs.Payload.{payload_length, root_bytes, root, entries_end}
use Rattle.manifest.specs.At.{entries_at, record_head, fill, payload_at}
use Rattle.manifest.proofs.At.{length_root_bytes}
use Rattle.confirm.specs.payload.Sum.{Rooted}

-- ---- the power of 4,052 bytes: 4 + 16 + 64 + 128 + 256 + 512 + 1024 + 2048

abbrev pub zeros_power : ℕ
zeros_power = 0x4362_E151

abbrev at : ℕ → ℕ
at i = get_or powers i 0

computed : product (product (product (product (product (product (product (at 2) (at 4)) (at 6)) (at 7)) (at 8)) (at 9)) (at 10)) (at 11) ≡ zeros_power
unfolding product digits bit
computed = refl

zeros_power_value : zeros_power ≡ power (8 * 4052)
zeros_power_value =
    sym computed
    ∙ power_more _ 2004 11 (lit< tt)
    (power_more _ 980 10 (lit< tt)
    (power_more _ 468 9 (lit< tt)
    (power_more _ 212 8 (lit< tt) (power_more _ 84 7 (lit< tt) (power_more _ 20 6 (lit< tt) (power_more _ 4 4 (lit< tt) (powers_at 2 (lit< tt))))))))

-- ---- the root

-- bytes and zeros behind them, by the checksum of the bytes
zeros_summed : (s : List ℕ) (n sum crc : ℕ) → sum < 2 ^ 32 → sum ≡ crc_of s → crc ≡ bit_xor (product (bit_xor sum 0xFFFF_FFFF) (power (8 * n))) 0xFFFF_FFFF
    → crc ≡ crc_of (s ++ replicate n 0)
zeros_summed s n sum crc h e p =
    p ∙ sym (extended_zeros sum n h) ∙ ap (λ (x : ℕ). extended x (replicate n 0)) e ∙ crc_of_append s (replicate n 0)

in_line : (a b c d e f g z : List ℕ) → ((((((a ++ b) ++ c) ++ d) ++ e) ++ f) ++ g) ++ z ≡ a ++ (b ++ (c ++ (d ++ (e ++ (f ++ (g ++ z))))))
in_line a b c d e f g z = simp append_assoc

split_at : (s x z : List ℕ) (n : ℕ) → x ++ z ≡ s → length x ≡ n → take n s ++ z ≡ s
split_at s x z n e l = ap (λ (y : List ℕ). take n y ++ z) (sym e) ∙ ap (λ (y : List ℕ). y ++ z) (take_at x z n l) ∙ e

module _ (c offset id : ℕ) where
  root-split : take 40 (root_bytes c offset id) ++ replicate 4052 0 ≡ root_bytes c offset id
  unfolding root_bytes
  root-split =
      let name : List ℕ = 0x52 ∷ 0x56 ∷ 0x4D ∷ 0x30 ∷ [] in
      let end : ℕ = offset + 64 + round64 (payload_length c) in
      split_at _ ((((((name ++ le_bytes 2 1) ++ le_bytes 2 c) ++ le_bytes 8 offset) ++ le_bytes 8 id) ++ le_bytes 8 (entries_end c)) ++ le_bytes 8 end) (replicate 4052 0) 40
      (in_line name (le_bytes 2 1) (le_bytes 2 c) (le_bytes 8 offset) (le_bytes 8 id) (le_bytes 8 (entries_end c)) (le_bytes 8 end) (replicate 4052 0))
      (simp (length-append, length_le_bytes))

  root-summed : (sum crc : ℕ) → sum < 2 ^ 32 → sum ≡ crc_of (take 40 (root_bytes c offset id))
      → crc ≡ bit_xor (product (bit_xor sum 0xFFFF_FFFF) zeros_power) 0xFFFF_FFFF → crc ≡ crc_of (root_bytes c offset id)
  root-summed sum crc h e p =
      zeros_summed (take 40 (root_bytes c offset id)) 4052 sum crc h e
      (p ∙ ap (λ (x : ℕ). bit_xor (product (bit_xor sum 0xFFFF_FFFF) x) 0xFFFF_FFFF) zeros_power_value)
      ∙ ap crc_of root-split

  -- the checksum is written behind the fields and zeros that it is of
  pub root_laid : (buf b₈ b₉ : List ℕ) (sum crc : ℕ) → 4096 ≤ length buf → b₈ ≡ over buf 0 (root_bytes c offset id) → sum < 2 ^ 32 → sum ≡ crc_of (take 40 b₈)
      → crc ≡ bit_xor (product (bit_xor sum 0xFFFF_FFFF) zeros_power) 0xFFFF_FFFF → b₉ ≡ over b₈ 4092 (le_bytes 4 crc) → b₉ ≡ over buf 0 (root c offset id)
  unfolding root
  root_laid buf b₈ b₉ sum crc room p h e k q =
      let bytes : List ℕ = root_bytes c offset id in
      let n = length_root_bytes c offset id in
      let t : take 4092 b₈ ≡ bytes = ap (take 4092) p ∙ ap (λ (m : ℕ). take m (over buf 0 bytes)) (sym n) ∙ over_at buf 0 bytes (omega arith) in
      let f : take 40 b₈ ≡ take 40 bytes = sym (take-take 40 4092 b₈ (omega arith)) ∙ ap (take 40) t in
      let s : crc ≡ crc_of bytes = root-summed sum crc h (e ∙ ap crc_of f) k in
      q ∙ over_then buf b₈ 0 bytes (le_bytes 4 crc) 4092 p n (omega arith) ∙ ap (λ (x : ℕ). over buf 0 (bytes ++ le_bytes 4 x)) s

-- ---- the payload

crc_of_lt : (s : List ℕ) → Bytes s → crc_of s < 2 ^ 32
crc_of_lt s t = subst (λ (x : ℕ). x < 2 ^ 32) (extended_first s) (extended_lt 0 s (lit< tt) t)

rooted_by : (x y : List ℕ) → length y ≡ 4092 → Rooted (x ++ (y ++ le_bytes 4 (crc_of y)))
rooted_by x y l =
    let z : List ℕ = le_bytes 4 (crc_of y) in
    let s : List ℕ = x ++ (y ++ z) in
    let n : length s ≡ length x + 4096 = simp (length-append, length_le_bytes, l) (omega arith) in
    let a : length s - 4096 ≡ length x = omega arith in
    let b : length s - 4 ≡ length x + 4092 = omega arith in
    let front : take 4092 (drop (length s - 4096) s) ≡ y = ap (λ (k : ℕ). take 4092 (drop k s)) a ∙ ap (take 4092) (drop_at x (y ++ z) (length x) refl) ∙ take_at y z 4092 l in
    let back : drop (length s - 4) s ≡ z =
    ap (λ (k : ℕ). drop k s) b ∙ sym (drop-drop 4092 (length x) s) ∙ ap (drop 4092) (drop_at x (y ++ z) (length x) refl) ∙ drop_at y z 4092 l in
    (omega arith, back ∙ ap (λ (w : List ℕ). le_bytes 4 (crc_of w)) (sym front))

-- a manifest's payload does
pub payload_rooted : (s f os ss : List ℕ) (offset id : ℕ) → s ≡ payload_at f os ss offset id → Rooted s
unfolding payload_at root
payload_rooted s f os ss offset id e =
    subst Rooted (sym e)
    (rooted_by ((record_head (length os) ++ entries_at f os ss) ++ fill (length os)) (root_bytes (length os) offset id) (length_root_bytes (length os) offset id))

module _ (s : List ℕ) (t : Bytes s) (h : Rooted s) where
  abbrev from : ℕ
  from = length s - 4096

  abbrev last : ℕ
  last = length s - 4

  -- the checksum that stands in the root, and the root's own by it
  stands : le_at 4 s last ≡ crc_of (take 4092 (drop from s))
  stands =
      let c : ℕ = crc_of (take 4092 (drop from s)) in
      ap (λ (w : List ℕ). le_of (take 4 w)) h.1
      ∙ ap le_of (take_all 4 (le_bytes 4 c) (omega (arith, length_le_bytes 4 c)))
      ∙ le_of_le_bytes 4 c (crc_of_lt (take 4092 (drop from s)) (bytes_take 4092 (drop from s) (bytes_drop from s t)))

  pub root_known : (stored known : ℕ) → stored ≡ le_at 4 s last → known ≡ extended stored (take (length s - last) (drop last s))
      → known ≡ crc_of (take (length s - from) (drop from s))
  root_known stored known e k =
      let room : 4096 ≤ length s = h.0 in
      let n : from + 4092 ≡ last = omega arith in
      k
      ∙ ap₂ extended (e ∙ stands) (tail_all s last ∙ sym (drop-drop 4092 from s ∙ ap (λ (m : ℕ). drop m s) n))
      ∙ crc_of_append (take 4092 (drop from s)) (drop 4092 (drop from s))
      ∙ ap crc_of (take-append-drop 4092 (drop from s) ∙ sym (tail_all s from))

  pub payload_summed : (sum r : ℕ) → sum ≡ crc_of (take from s) → r ≡ extended sum (take (length s - from) (drop from s)) → r ≡ crc_of s
  payload_summed sum r e k =
      k ∙ ap₂ extended e (tail_all s from) ∙ crc_of_append (take from s) (drop from s) ∙ ap crc_of (take-append-drop from s)
