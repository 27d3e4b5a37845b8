-- Behind the bytes of a buffer its place has zeros, since each function that leaves fewer bytes clears what they leave: so the bytes determine
-- the whole place. Assumes nothing.
use Rattle.std.proofs.Common.{◌≡◌, ◌∙◌, ℕ, List, ◌+◌, ◌-◌, ◌++◌, ◌≤◌, length, take, drop, replicate, slice_set, sym, ap, arith}
use Rattle.std.proofs.lemmas.List.{drop-drop, drop-replicate, drop-set-lt, drop_at, length-take-le, replicate-append-replicate, take-append-drop}
use Rattle.std.proofs.lemmas.Slice.{drop-put_mid}
use borrow.Rule.Slice.PartMut.{put_mid}
use Rattle.buffer.specs.declared.Buffer.TheInside.{Inside}
use Rattle.buffer.specs.declared.Buffer.TheView.{view, invariant}

-- "Every byte that it was lent", of a buffer: of two buffers of one size with the same bytes the places are the same, all `N` bytes and the length.
pub same_place : (N : ℕ) (a b : Inside N) → length a.bytes ≡ N → length b.bytes ≡ N → invariant N a → invariant N b → view N a ≡ view N b → a ≡ b
same_place N a b whole whole' room room' same =
    let size : a.len ≡ b.len = sym (length-take-le a.len a.bytes (omega (arith, whole, room.0))) ∙ ap length same ∙ length-take-le b.len b.bytes (omega (arith, whole', room'.0)) in
    let rest : drop a.len a.bytes ≡ drop b.len b.bytes = room.1 ∙ ap (λ n. replicate (N - n) 0) size ∙ sym room'.1 in
    let all : a.bytes ≡ b.bytes = sym (take-append-drop a.len a.bytes) ∙ ap (λ xs. xs ++ drop a.len a.bytes) same ∙ ap (λ ys. take b.len b.bytes ++ ys) rest ∙ take-append-drop b.len b.bytes in
    λ i. record { bytes = all i; len = size i }

-- behind more bytes there are fewer zeros
fewer : (N n k : ℕ) (bytes : List ℕ) → drop n bytes ≡ replicate (N - n) 0 → drop (n + k) bytes ≡ replicate (N - (n + k)) 0
fewer N n k bytes zeros =
    let left : N - n - k ≡ N - (n + k) = omega arith in
    rw (← drop-drop k n bytes, zeros, drop-replicate {X = ℕ} k (N - n) 0) (ap (λ m. replicate m 0) left)

-- so it is where a byte comes in place of the first zero
pub fewer_by_one : (N n : ℕ) (bytes : List ℕ) (byte : ℕ) → drop n bytes ≡ replicate (N - n) 0 → drop (n + 1) (slice_set bytes n byte) ≡ replicate (N - (n + 1)) 0
fewer_by_one N n bytes byte zeros = drop-set-lt (n + 1) bytes n byte (omega arith) ∙ fewer N n 1 bytes zeros

-- and where a text comes in place of the first zeros
pub fewer_by_text : (N n k : ℕ) (bytes text : List ℕ) → length text ≡ k → n ≤ length bytes → drop n bytes ≡ replicate (N - n) 0
    → drop (n + k) (put_mid n (n + k - n) bytes text) ≡ replicate (N - (n + k)) 0
fewer_by_text N n k bytes text size within zeros = drop-put_mid n (n + k - n) bytes text (n + k) (omega arith) within (omega (arith, size)) ∙ fewer N n k bytes zeros

-- where a place is cleared from what stays to where the zeros began, there are zeros from what stays on
pub zeros_from : (N n stays : ℕ) (before bytes cleared : List ℕ) → stays ≤ n → n ≤ N → stays ≤ length bytes → cleared ≡ replicate (n - stays) 0
    → drop stays bytes ≡ drop stays before → drop n before ≡ replicate (N - n) 0 → drop stays (put_mid stays (n - stays) bytes cleared) ≡ replicate (N - stays) 0
zeros_from N n stays before bytes cleared less within room zeros same behind =
    let whole : stays + (n - stays) ≡ n = omega (arith, less) in
    let left : n - stays + (N - n) ≡ N - stays = omega (arith, less, within) in
    drop_at (take stays bytes) (cleared ++ drop (n - stays) (drop stays bytes)) stays (length-take-le stays bytes room)
    ∙ rw (same, drop-drop (n - stays) stays before, whole, behind, zeros) (replicate-append-replicate (n - stays) (N - n) 0 ∙ ap (λ k. replicate k 0) left)
