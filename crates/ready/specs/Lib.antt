-- Words for the ready word, and for what changes a thread's record on the way from one line to another.
pub mod Word
pub mod Change
