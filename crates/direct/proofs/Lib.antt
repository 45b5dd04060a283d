mod Booking
mod OverTable
