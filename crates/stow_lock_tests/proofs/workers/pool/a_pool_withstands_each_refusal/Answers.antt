use Rattle.std.proofs.Crossing as at_heap
use Rattle.stow_lock_tests.proofs.workers.pool.a_pool_withstands_each_refusal.Goals as goal

-- what is lent frees by its inner allocator, which is the heap
pub withstands-requires-frees-A-Allocator : goal.withstands-requires-frees-A-Allocator
withstands-requires-frees-A-Allocator g c κs = record { frees = λ a τ p. at_heap.frees.frees a.now.inner τ p }
