-- A list read once: calls under its bytes and calls under the descriptions that reading filled in and counted answer the same and leave the
-- same in every lent buffer, by what the entries promise. Assumes nothing.
use Prim.Native.Nat.{ℕ, ◌*◌, ◌≤◌}
use mathlib.Core.Path.{◌≡◌}
use mathlib.Core.List.{List}
use lib.ListN.{length, take}
use Rattle.format.specs.declared.Column.{Column}
use Rattle.format.specs.Numbers.{Answer}
use Rattle.std.specs.declared.result.Result.TheVariants.{Ok}
use Rattle.format.specs.Described.{spelled, described, coded}
use Rattle.format.specs.Entries.{read_list_answer}
use Rattle.format.specs.Lent.{answer_room, code_room}
use Rattle.format.specs.Promises.{ListRead, Measured, Encoded, Decoded, LentListRead, LentMeasured, LentEncoded, LentDecoded}
use Rattle.readings.specs.Readings.{BothWays}
use Rattle.readings.proofs.BothWays.{both_ways, both_ways_codes}
use Rattle.readings.proofs.Promised.{measured_ways, encoded_ways, decoded_ways, lent_measured_ways, lent_encoded_ways, lent_decoded_ways}
use Rattle.demands.proofs.Unique.{measure_unique, encode_unique, decode_unique, lent_measure_unique, lent_encode_unique, lent_decode_unique}

-- read_list answered k: the first k descriptions are handed on
module _ {list : List ℕ} {lent : List Column} {r : Answer} {lent' : List Column} (p : ListRead list lent r lent') (k z : ℕ) (e : r ≡ Ok (k, z)) where
  ways : BothWays (spelled list) (described (take k lent'))
  ways = both_ways list lent r lent' p k z e

  pub measured_alike : {n : ℕ} {sheet : List ℕ} {f g : Answer} → Measured (spelled list) n sheet f → Measured (described (take k lent')) n sheet g → f ≡ g
  measured_alike a b = measure_unique (measured_ways ways a) b

  pub encoded_alike : {n : ℕ} {sheet rows offsets : List ℕ} {f g : Answer} {rows₁ rows₂ offsets₁ offsets₂ : List ℕ}
      → Encoded (spelled list) n sheet rows offsets f rows₁ offsets₁ → Encoded (described (take k lent')) n sheet rows offsets g rows₂ offsets₂
      → (f ≡ g) × (rows₁ ≡ rows₂) × (offsets₁ ≡ offsets₂)
  encoded_alike a b = encode_unique (encoded_ways ways a) b

  pub decoded_alike : {n : ℕ} {rows offsets sheet : List ℕ} {f g : Answer} {sheet₁ sheet₂ : List ℕ}
      → Decoded (spelled list) n rows offsets sheet f sheet₁ → Decoded (described (take k lent')) n rows offsets sheet g sheet₂
      → (f ≡ g) × (sheet₁ ≡ sheet₂)
  decoded_alike a b = decode_unique (decoded_ways ways a) b

-- station_read_list answered k, and there was room for the answer: the first 4 k bytes are handed on
module _ {list descriptions lent descriptions' lent' : List ℕ} (p : LentListRead list descriptions lent descriptions' lent') (k z : ℕ)
    (done : read_list_answer list (code_room descriptions) ≡ Ok (k, z)) (there : answer_room ≤ length lent) where
  code_ways : BothWays (spelled list) (coded (take (4 * k) descriptions'))
  code_ways = both_ways_codes list descriptions lent descriptions' lent' p k z done there

  pub lent_measured_alike : {n : ℕ} {sheet answer answer₁ answer₂ : List ℕ}
      → LentMeasured (spelled list) n sheet answer answer₁ → LentMeasured (coded (take (4 * k) descriptions')) n sheet answer answer₂ → answer₁ ≡ answer₂
  lent_measured_alike a b = lent_measure_unique (lent_measured_ways code_ways a) b

  pub lent_encoded_alike : {n : ℕ} {sheet rows offsets answer rows₁ rows₂ offsets₁ offsets₂ answer₁ answer₂ : List ℕ}
      → LentEncoded (spelled list) n sheet rows offsets answer rows₁ offsets₁ answer₁
      → LentEncoded (coded (take (4 * k) descriptions')) n sheet rows offsets answer rows₂ offsets₂ answer₂
      → (answer₁ ≡ answer₂) × (rows₁ ≡ rows₂) × (offsets₁ ≡ offsets₂)
  lent_encoded_alike a b = lent_encode_unique (lent_encoded_ways code_ways a) b

  pub lent_decoded_alike : {n : ℕ} {rows offsets sheet answer sheet₁ sheet₂ answer₁ answer₂ : List ℕ}
      → LentDecoded (spelled list) n rows offsets sheet answer sheet₁ answer₁
      → LentDecoded (coded (take (4 * k) descriptions')) n rows offsets sheet answer sheet₂ answer₂
      → (answer₁ ≡ answer₂) × (sheet₁ ≡ sheet₂)
  lent_decoded_alike a b = lent_decode_unique (lent_decoded_ways code_ways a) b
