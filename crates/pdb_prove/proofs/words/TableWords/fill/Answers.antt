use Rattle.std.proofs.Common.{◌≡◌, ◌+◌, ◌<◌, ◌∷◌, ◌++◌, ◌∙◌, [], IsOk, append_assoc, ap, arith, drop, length, length-append, refl, rules, sym, vec_capacity}
use Rattle.std.proofs.lemmas.List.{length-drop, length-map}
use Rattle.std.specs.Vec.Iter.{into_iter_items}
use Rattle.pdb_run.specs.Answers.{all_bytes}
use Rattle.pdb_verdict.proofs.FullTableLemmas.{file_at, file_exact, table_count, table_pattern, table_shown, table_side}
use Rattle.pdb_prove.proofs.WordLemmas.{more_words, next_room, rooms_left}
use Rattle.pdb_prove.proofs.words.TableWords.fill.Goals as goal

-- at first no words are made, and all memory for them is left
pub loop-file-init : goal.loop-file-init
loop-file-init g c =
    let sets = c.requires.0 in
    let v = c.requires.1 in
    let is = c.requires.2 in
    let room = c.requires.3 in
    let count : length c.args.files.items ≡ length v.tables = rw length-map at (table_count (all_bytes c.args.files.items) sets v is) in
    record {
      can_next = tt;
      is_finite = tt;
      whole = search rules;
      count = ap length room.empty;
      room = rw count room.room;
      rooms = refl;
      each = λ sets v is t low. absurd (omega (arith, low));
    }

-- while files are left, memory for words is left
pub remove-room-requires : goal.remove-room-requires
remove-room-requires g c =
    let so_far = c.loop-file.invariant in
    let before = c.loop-file.yielded in
    let all = c.args.self.rooms.items in
    let made = c.requires in
    let whole = rw c.in-Some.ensures.steps.0 at so_far.whole in
    let files : length c.args.files.items ≡ length made.1.tables = rw length-map at (table_count (all_bytes c.args.files.items) made.0 made.1 made.2) in
    let size : length all ≡ length made.1.tables = made.3.rooms.size in
    let parts : length (before ++ c.in-Some.file ∷ into_iter_items c.next.new.self) ≡ length c.args.files.items = ap length whole in
    let split = length-append before (c.in-Some.file ∷ into_iter_items c.next.new.self) in
    let low : length before < length all = omega (arith, parts, split, files, size) in
    let left : length c.loop-file.rooms.items ≡ length (drop (length before) all) = ap length so_far.rooms in
    let count = length-drop (length before) all in
    let some : 0 < length c.loop-file.rooms.items = omega (arith, left, count, low) in
    search (rules, some)

-- the memory that is taken next is that for the words of the next file's table
pub words_in-requires-after_bounds : goal.words_in-requires-after_bounds
words_in-requires-after_bounds g c _ _ =
    let so_far = c.loop-file.invariant in
    let before = c.loop-file.yielded in
    let file = c.in-Some.file in
    let files = all_bytes c.args.files.items in
    let now = c.as_slice.result.now in
    let made = c.requires in
    let whole = rw c.in-Some.ensures.steps.0 at so_far.whole in
    let there = file_at before (into_iter_items c.next.new.self) c.args.files.items file now c.as_slice.ensures.value whole in
    let exact = file_exact files made.0 made.1 made.2 (length before) now there in
    let pattern = table_pattern files made.0 made.1 made.2 (length before) now there exact.0 exact.1 in
    let count : length c.args.files.items ≡ length made.1.tables = rw length-map at (table_count files made.0 made.1 made.2) in
    let parts : length (before ++ file ∷ into_iter_items c.next.new.self) ≡ length c.args.files.items = ap length whole in
    let split = length-append before (file ∷ into_iter_items c.next.new.self) in
    let low : length before < length made.1.tables = omega (arith, parts, split, count) in
    let room = next_room made.1 c.args.self.rooms.items made.3.rooms (length before) low c.remove-room.result
    (rw so_far.rooms at c.remove-room.ensures.value) in
    (exact.0, exact.1, room ∙ sym pattern)

-- with the words of one file more, the words are those of the files so far and of this one, and the memory for the others is left
pub loop-file-preserved : goal.loop-file-preserved
loop-file-preserved g c =
    let so_far = c.loop-file.invariant in
    let before = c.loop-file.yielded in
    let file = c.in-Some.file in
    let files = all_bytes c.args.files.items in
    let now = c.as_slice.result.now in
    let whole = rw c.in-Some.ensures.steps.0 at so_far.whole in
    let there = file_at before (into_iter_items c.next.new.self) c.args.files.items file now c.as_slice.ensures.value whole in
    let words = c.words_in.result in
    let made = c.words_in.ensures in
    let parts : length (before ++ file ∷ into_iter_items c.next.new.self) ≡ length c.args.files.items = ap length whole in
    let split = length-append before (file ∷ into_iter_items c.next.new.self) in
    let some : length c.loop-file.words.items < vec_capacity c.loop-file.words = omega (arith, parts, split, so_far.count, so_far.room) in
    let ok : IsOk c.push.result = c.push.ensures.succeeds (search (rules, some)) in
    let items : c.push.new.self.items ≡ c.loop-file.words.items ++ words ∷ [] = rw ok at c.push.ensures.items in
    let one : length (before ++ file ∷ []) ≡ length before + 1 = length-append before (file ∷ []) in
    record {
      can_next = tt;
      is_finite = tt;
      whole = rw append_assoc whole;
      count = ap length items ∙ length-append c.loop-file.words.items (words ∷ []) ∙ ap (λ n. n + 1) so_far.count ∙ sym one;
      room = omega (arith, so_far.room, c.push.ensures.capacity);
      rooms = (rw so_far.rooms at c.remove-room.ensures.by_index.2) ∙ rooms_left c.args.self.rooms.items (length before)
          ∙ ap (λ n. drop n c.args.self.rooms.items) (sym one);
      each = λ sets v is.
          let shows = table_shown files sets v is (length before) now there made.0 made.1 in
          let side = table_side files sets v is (length before) now there made.0 made.1 in
          rw (items, one) (more_words v (length before) made.0 shows side c.loop-file.words.items words so_far.count (so_far.each sets v is) made.2);
    }

-- with the words of all files, the tables of the bundle have their words
pub returns-clause-words : goal.returns-clause-words
returns-clause-words g c sets v is room =
    let so_far = c.loop-file.invariant in
    let done : length c.loop-file.yielded ≡ length c.args.files.items =
    rw (← so_far.whole) (omega (arith, length-append c.loop-file.yielded (into_iter_items c.loop-file.file-iterator), c.in-None.ensures.steps.0)) in
    let count : length c.args.files.items ≡ length v.tables = rw length-map at (table_count (all_bytes c.args.files.items) sets v is) in
    record {
      few = room.few;
      size = so_far.count ∙ done ∙ count;
      each = λ t low. so_far.each sets v is t (rw (done, count) low);
    }
