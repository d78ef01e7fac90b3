-- The words of a line by their index, and the numbers that they write.
use Rattle.std.proofs.Common.{◌≡◌, ℕ, ◌+◌, ◌-◌, ◌<◌, ◌≤◌, leb, List, [], ◌∷◌, ◌++◌, length, get_or, take, drop, set, replicate, Ok, Err, Result, Iter, sym, refl, ap, ◌∙◌, append_assoc, append-nil, arith, Bor}
use Rattle.std.proofs.lemmas.List.{get_or-map, get_or-drop, length-map, length-drop, at_drop_more, at_drop_all, length-set, length-take-le, take-append-drop, take_more_set, drop-set-lt, drop-drop, drop-replicate}
use Rattle.std.proofs.lemmas.List.FromFn.{length-enumerate_from, get_or-enumerate_from}
use Rattle.std.proofs.lemmas.Iterator.{YieldsList, YieldsList-from_slice}
use Rattle.std.proofs.lemmas.Iterator.Adapters.{YieldsList-from_skip}
use Rattle.std.proofs.lemmas.Iterator.Consumers.{YieldsList-at, YieldsList-from_enumerate}
use Rattle.std.proofs.lemmas.Fn.{fronts}
use Rattle.std.specs.declared.iter.Enumerate.{Enumerate}
use Rattle.std.specs.declared.iter.Skip.{Skip}
use Rattle.std.specs.Iterator.Adapters.{enumerate_source, enumerate_count, enumerate_steps, skip_source, skip_count, skip_steps}
use Rattle.std.specs.Slice.Iter.{iter_rest}
use Rattle.std.specs.List.{enumerate_from}
use Rattle.std.proofs.lemmas.Bool.{cond-true, le-leb}
use Rattle.journal.specs.declared.command.Unreadable.{Unreadable}
use Rattle.journal.specs.Words.{texts, number_of}
use Rattle.journal.specs.Commands.{surcharge, next, placed, number_at, numbers_at, numbers_from, surcharge_of}

pub length_texts : (parts : List (Bor (List ℕ))) → length (texts parts) ≡ length parts
length_texts parts = length-map parts (λ part. part.now)

pub word_at : (parts : List (Bor (List ℕ))) (k : ℕ) (d : Bor (List ℕ)) → k < length parts → get_or (texts parts) k [] ≡ (get_or parts k d).now
word_at parts k d h = get_or-map (λ (part : Bor (List ℕ)). part.now) parts k d [] h

-- what `line.iter().enumerate().skip(first)` yields
pub indexed : (parts : List (Bor (List ℕ))) (first : ℕ) {words : Iter (Bor (List ℕ))} {counted : Enumerate (Iter (Bor (List ℕ)))} {s t : Skip (Enumerate (Iter (Bor (List ℕ))))} → iter_rest words ≡ parts → (enumerate_source counted ≡ words) × (enumerate_count counted ≡ 0) → (skip_source t ≡ counted) × (skip_count t ≡ first) → s ≡ t → YieldsList (skip_steps (enumerate_steps fronts)) (λ p. (p.0, p.1.now)) s (drop first (enumerate_from 0 parts))
indexed parts first rest source skipped same =
    let all = YieldsList-from_enumerate (YieldsList-at source.0 (YieldsList-from_slice parts rest)) source.1 in
    YieldsList-at same (YieldsList-from_skip first (YieldsList-at skipped.0 all) skipped.1)

pub length-indexed : (parts : List (Bor (List ℕ))) (first : ℕ) → length (drop first (enumerate_from 0 parts)) ≡ length (texts parts) - first
length-indexed parts first = length-drop first (enumerate_from 0 parts) ∙ ap (λ m. m - first) (length-enumerate_from 0 parts ∙ sym (length_texts parts))

-- item n of `line.iter().enumerate().skip(first)` is a word and its index
pub item_at : (parts : List (Bor (List ℕ))) (first n k : ℕ) (word : Bor (List ℕ)) → (n < length (drop first (enumerate_from 0 parts))) × ((k, word) ≡ get_or (drop first (enumerate_from 0 parts)) n (k, word)) → (first + n < length (texts parts)) × (k ≡ first + n) × (placed k (number_of word.now) ≡ number_at (texts parts) (first + n))
unfolding number_at
item_at parts first n k word h =
    let in-line : first + n < length (texts parts) = omega (arith, h.0, length-indexed parts first) in
    let in-parts : first + n < length parts = omega (arith, in-line, length_texts parts) in
    let item : (k, word) ≡ (0 + (first + n), get_or parts (first + n) word) =
    h.1 ∙ get_or-drop first (enumerate_from 0 parts) n (k, word) ∙ get_or-enumerate_from 0 parts (first + n) (k, word) in-parts in
    let text : word.now ≡ get_or (texts parts) (first + n) [] = ap (λ p. p.1.now) item ∙ sym (word_at parts (first + n) word in-parts) in
    let index : k ≡ first + n = omega (arith, ap (λ p. p.0) item) in
    (in-line, index, rw (index, text) refl)

-- these numbers, and those that are read after them
abbrev pub ahead : List ℕ → Result (List ℕ) Unreadable → Result (List ℕ) Unreadable
ahead ns (Ok ms) = Ok (ns ++ ms)
ahead ns (Err fault) = Err fault

pub ahead_none : (r : Result (List ℕ) Unreadable) → ahead [] r ≡ r
ahead_none (Ok ms) = refl
ahead_none (Err fault) = refl

ahead-one : (ns : List ℕ) (n : ℕ) (r : Result (List ℕ) Unreadable) → ahead ns (next r (λ ms. Ok (n ∷ ms))) ≡ ahead (ns ++ n ∷ []) r
ahead-one ns n (Ok ms) = ap (λ (l : List ℕ). Ok l) (sym (append_assoc ns (n ∷ []) ms))
ahead-one ns n (Err fault) = refl

step : (line : List (List ℕ)) (k : ℕ) → k < length line → numbers_from line k ≡ next (number_at line k) (λ n. next (numbers_from line (k + 1)) (λ ns. Ok (n ∷ ns)))
unfolding numbers_from number_at
step line k h = at_drop_more (numbers_at k) line k [] h

module _ (line : List (List ℕ)) (ns : List ℕ) (k : ℕ) where
  pub ahead_more : (n : ℕ) → k < length line → Ok n ≡ number_at line k → ahead ns (numbers_from line k) ≡ ahead (ns ++ n ∷ []) (numbers_from line (k + 1))
  ahead_more n h e = ap (ahead ns) (step line k h) ∙ rw (← e) (ahead-one ns n (numbers_from line (k + 1)))

  pub ahead-stop : (fault : Unreadable) → k < length line → Err fault ≡ number_at line k → ahead ns (numbers_from line k) ≡ Err fault
  ahead-stop fault h e = ap (ahead ns) (step line k h) ∙ rw (← e) refl

  pub ahead-all : length line ≤ k → ahead ns (numbers_from line k) ≡ Ok ns
  unfolding numbers_from
  ahead-all h = ap (ahead ns) (at_drop_all (numbers_at k) line k h) ∙ ap (λ (l : List ℕ). Ok l) (append-nil ns)

-- surcharge: the numbers before index k are in place, and zeros after them
pub record Filled (line : List (List ℕ)) (all : List ℕ) (k : ℕ) : Type 0 where
  pub from : 1 ≤ k
  pub to : k ≤ 17
  pub long : length all ≡ 16
  pub reads : ahead (take (k - 1) all) (numbers_from line k) ≡ numbers_from line 1
  pub zeros : drop (k - 1) all ≡ replicate (17 - k) 0

pub filled_none : (line : List (List ℕ)) → Filled line (replicate 16 0) 1
filled_none line = record { from = omega arith; to = omega arith; long = refl; reads = ahead_none _; zeros = refl }

module _ {line : List (List ℕ)} {all : List ℕ} {k : ℕ} (so_far : Filled line all k) (few : length line ≤ 17) where
  pub filled_more : (n : ℕ) → k < length line → Ok n ≡ number_at line k → Filled line (set all (k - 1) n) (k + 1)
  filled_more n h e =
      let from = so_far.from in
      let long = so_far.long in
      let next_place : k + 1 - 1 ≡ k - 1 + 1 = omega arith in
      let one_less : 17 - (k + 1) ≡ 17 - k - 1 = omega arith in
      record {
        from = omega arith;
        to = omega arith;
        long = length-set all (k - 1) n ∙ long;
        reads = rw (next_place, take_more_set all (k - 1) n (omega arith)) (sym (ahead_more line (take (k - 1) all) k n h e) ∙ so_far.reads);
        zeros = rw (next_place, drop-set-lt (k - 1 + 1) all (k - 1) n (omega arith), ← drop-drop 1 (k - 1) all, so_far.zeros, one_less) (drop-replicate 1 (17 - k) 0);
      }

  surcharge-is : surcharge_of line ≡ next (numbers_from line 1) (λ ns. Ok (surcharge (ns ++ replicate (16 - length ns) 0)))
  unfolding surcharge_of
  surcharge-is = cond-true (leb (length line) 17) _ _ (le-leb (length line) 17 few)

  pub filled-stop : (fault : Unreadable) → k < length line → Err fault ≡ number_at line k → surcharge_of line ≡ Err fault
  filled-stop fault h e = surcharge-is ∙ rw (← so_far.reads, ahead-stop line (take (k - 1) all) k fault h e) refl

  pub filled-all : length line ≤ k → surcharge_of line ≡ Ok (surcharge all)
  filled-all h =
      let from = so_far.from in
      let to = so_far.to in
      let long = so_far.long in
      let given = length-take-le (k - 1) all (omega arith) in
      let missing : 16 - length (take (k - 1) all) ≡ 17 - k = omega arith in
      surcharge-is ∙ rw (← so_far.reads, ahead-all line (take (k - 1) all) k h) (ap (λ (l : List ℕ). Ok (surcharge l)) (rw (missing, ← so_far.zeros) (take-append-drop (k - 1) all)))
