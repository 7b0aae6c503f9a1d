mod Numbers
mod Refused
