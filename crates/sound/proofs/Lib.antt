-- Laws that the test of a table cites.
mod Order
mod Range
mod Noting
mod Threads
mod AllPlaces
mod Running
mod Parts
