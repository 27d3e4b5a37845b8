-- Laws of semaphores.
pub mod Numbers
